-- What the getters of matches return, by the rows of the matches.
use Rattle.std.proofs.Common.{◌≡◌, ◌<◌, ◌&&◌, ◌∙◌, ℕ, Bool, true, false, List, [], ◌∷◌, map, length, nat_lt, Option, Some, None, Result, Ok, Err, Bor, refl, sym, ap, ap₂, option_map, unwrap_or}
use Rattle.std.proofs.lemmas.Bool.{ltb-true, lt-ltb}
use Rattle.std.specs.Prelude.{option_and_then, ◌^◌}
use Rattle.std.specs.List.{list_all}
use Rattle.std.specs.Char.{digit_value}
use Rattle.std.specs.Str.Parse.{AllDigits, ParsesUnsigned, digits_value, without_leading_plus}
use Rattle.clap.specs.Matches.{ReadsOne, first_value, found_of, matched_of, one_text, raw_values, subcommand_name_of}
use Rattle.clap.specs.Simple.{subcommand_rows_of}
use Rattle.clap.specs.declared.parser.matches.ArgMatches.{ArgMatches}
use Rattle.clap.specs.declared.parser.matches.ArgMatches.TheViews.{out-ArgMatches}
use Rattle.clap.specs.ValueTests.{is_numeral}
use Rattle.clap.specs.Walk.{all_of, first_of, one_of, rows_of}
use Rattle.clap.specs.declared.parser.matches.Found.{Found}
use Rattle.clap.proofs.WalkLemmas.{both, first_value-rows, one_text-rows, raw_values-rows}
use Rattle.dexargs.specs.Asked.{number_in, numeral_value, option_values}

-- the value that `get_str` returns
pub first_is : (f : Found) (id : List ℕ) (r : Option (Bor (List ℕ))) → option_map (λ s. s.now) r ≡ first_value f id
    → (t : Bor (List ℕ)) → r ≡ Some t → first_of id (rows_of f) ≡ Some t.now
first_is f id r e t is = sym (first_value-rows f id) ∙ (sym e ∙ ap (option_map (λ s. s.now)) is)

pub no_first : (f : Found) (id : List ℕ) (r : Option (Bor (List ℕ))) → option_map (λ s. s.now) r ≡ first_value f id
    → r ≡ None → first_of id (rows_of f) ≡ None
no_first f id r e is = sym (first_value-rows f id) ∙ (sym e ∙ ap (option_map (λ s. s.now)) is)

-- the values that `get_strs` returns
pub values_are : (f : Found) (id : List ℕ) (r : Option (Bor (List (Bor (List ℕ))))) → option_map (λ s. map (λ v. v.now) s.now) r ≡ option_map raw_values (matched_of f id)
    → (t : Bor (List (Bor (List ℕ)))) → r ≡ Some t → option_values id (rows_of f) ≡ map (λ v. v.now) t.now
values_are f id r e t is = ap (λ o. unwrap_or o []) (sym (raw_values-rows f id) ∙ (sym e ∙ ap (option_map (λ s. map (λ v. v.now) s.now)) is))

pub no_values : (f : Found) (id : List ℕ) (r : Option (Bor (List (Bor (List ℕ))))) → option_map (λ s. map (λ v. v.now) s.now) r ≡ option_map raw_values (matched_of f id)
    → r ≡ None → option_values id (rows_of f) ≡ []
no_values f id r e is = ap (λ o. unwrap_or o []) (sym (raw_values-rows f id) ∙ (sym e ∙ ap (option_map (λ s. map (λ v. v.now) s.now)) is))

digits_pass : (ds : List ℕ) → AllDigits 10 ds → list_all (λ d. nat_lt (digit_value d) 10) ds ≡ true
digits_pass [] h = refl
digits_pass (d ∷ ds) h = rw (lt-ltb (digit_value d) 10 h.0) (digits_pass ds h.1)

digits_from : (ds : List ℕ) → list_all (λ d. nat_lt (digit_value d) 10) ds ≡ true → AllDigits 10 ds
digits_from [] e = tt
digits_from (d ∷ ds) e =
    let parts = both _ _ e in
    (ltb-true _ _ parts.0, digits_from ds parts.1)

-- what `parse` makes of a text is its number
number_read : {E : Type 0} (G : List ℕ → Result ℕ E → Type 0) → ((u : List ℕ) (x : Result ℕ E) → G u x → ParsesUnsigned 32 10 u x)
    → (text : List ℕ) (r : Option ℕ) → ReadsOne G text r → r ≡ numeral_value text
number_read G only text (Some v) h =
    let parsed = only text (Ok v) h in
    let ds = without_leading_plus text in
    rw (lt-ltb 0 (length ds) parsed.0.0.0, digits_pass ds parsed.0.0.1, lt-ltb (digits_value 10 ds) (2 ^ 32) parsed.0.1, parsed.1) refl
number_read {E = E} G only text None h = go (is_numeral (without_leading_plus text) && nat_lt (digits_value 10 (without_leading_plus text)) (2 ^ 32)) refl
  where
    go : (b : Bool) → (is_numeral (without_leading_plus text) && nat_lt (digits_value 10 (without_leading_plus text)) (2 ^ 32)) ≡ b → None ≡ numeral_value text
    go false t = rw t refl
    go true t =
        let outer = both _ _ t in
        let inner = both _ _ outer.0 in
        absurd (only text (Err h.0) h.1 ((ltb-true _ _ inner.0, digits_from (without_leading_plus text) inner.1), ltb-true _ _ outer.1))

-- the number that `get_one` returns
pub number_is : {E : Type 0} (G : List ℕ → Result ℕ E → Type 0) → ((u : List ℕ) (x : Result ℕ E) → G u x → ParsesUnsigned 32 10 u x)
    → (f : Found) (id : List ℕ) (r : Option ℕ) → (one_text f id ≡ None → r ≡ None) → ((t : List ℕ) → one_text f id ≡ Some t → ReadsOne G t r)
    → r ≡ number_in id (rows_of f)
number_is G only f id r none value = go (one_text f id) refl
  where
    go : (o : Option (List ℕ)) → one_text f id ≡ o → r ≡ number_in id (rows_of f)
    go None e = rw (sym (one_text-rows f id) ∙ e) (none e)
    go (Some t) e = rw (sym (one_text-rows f id) ∙ e) (number_read G only t r (value t e))

both_parts : {X A B : Type 0} (f : X → A) (g : X → B) (h : X → A × B) → ((x : X) → h x ≡ (f x, g x)) → (o : Option X) (a : A) (b : B) → Some a ≡ option_map f o → Some b ≡ option_map (λ (p : A × B). p.1) (option_map h o)
    → option_map h o ≡ Some (a, b)
both_parts f g h pair None a b name rows = cc
both_parts f g h pair (Some x) a b name rows =
    let p = pair x in
    let first : a ≡ f x = ap (λ o. unwrap_or o a) name in
    let second : b ≡ g x = ap (λ o. unwrap_or o b) rows ∙ ap (λ q. q.1) p in
    ap Some (p ∙ ap₂ (λ u v. (u, v)) (sym first) (sym second))

-- the command that `subcommand` returns, with its rows
pub command_met : (m : ArgMatches) (r : Option (Bor (List ℕ) × Bor ArgMatches)) → option_map (λ p. p.0.now) r ≡ subcommand_name_of m
    → option_map (λ p. rows_of (found_of p.1.now)) r ≡ option_map (λ p. p.1) (subcommand_rows_of m)
    → (command : Bor (List ℕ)) (found : Bor ArgMatches) → r ≡ Some (command, found)
    → subcommand_rows_of m ≡ Some (command.now, rows_of (found_of found.now))
command_met m r name rows command found is =
    both_parts _ _ _ (λ x. refl) (out-ArgMatches m).subcommand command.now (rows_of (found_of found.now))
    (sym (ap (option_map (λ p. p.0.now)) is) ∙ name) (sym (ap (option_map (λ p. rows_of (found_of p.1.now))) is) ∙ rows)
