-- A place begins with a hexadecimal digit.
use Rattle.dexspec.proofs.Common.{◌≡◌, ℕ, ◌<◌, ◌^◌, Bool, true, List, [], ◌∷◌, ◌++◌, refl, sym, ap, ◌∙◌}
use Rattle.std.specs.Str.Parse.{digits_value}
use Rattle.dexout.specs.Printed.{place_text}
use Rattle.dexlisting.proofs.law.Reads.{begins}
use Rattle.dexlisting.proofs.law.Spans.{Pass}
use Rattle.dexlisting.proofs.law.Numbers.{is_hexadecimal, pass_place, place_value}

-- signs that pass, of which there are some
begins_from : (test : ℕ → Bool) (a r : List ℕ) → Pass test a → (a ≡ [] → ⊥) → begins test (a ++ r) ≡ true
begins_from test [] r p some = absurd (some refl)
begins_from test (u ∷ a) r p some = p.0

-- no place is written without a digit
not_empty : (n : ℕ) → n < 2 ^ 64 → place_text n ≡ [] → ⊥
unfolding place_text
not_empty n lt e =
    let is : n ≡ 0 = sym (place_value n lt) ∙ ap (digits_value 16) e in
    let z : place_text 0 ≡ [] = ap place_text (sym is) ∙ e in
    absurd cc

-- the digits of a number
pub place_begins : (n : ℕ) (r : List ℕ) → n < 2 ^ 64 → begins is_hexadecimal (place_text n ++ r) ≡ true
place_begins n r lt = begins_from is_hexadecimal (place_text n) r (pass_place n) (not_empty n lt)
