-- The conditions of a set, one number after the other.
use Rattle.std.proofs.Common.{◌≡◌, ◌∙◌, ◌+◌, ◌++◌, ◌∷◌, [], ℕ, Bool, true, false, List, ap, sym, cond, arith, append-nil, append_assoc}
use Rattle.std.proofs.lemmas.Grind.{flat_map-append}
use Rattle.std.proofs.lemmas.List.{map-id}
use Rattle.std.proofs.lemmas.List.Elements.{filter-append}
use Rattle.std.proofs.lemmas.List.FromFn.{map-range_with_len_more}
use Rattle.std.specs.List.{flat_map, range_with_len}
use Rattle.std.specs.Prelude.{filter}

range_more : (n : ℕ) → range_with_len 0 (n + 1) ≡ range_with_len 0 n ++ n ∷ []
range_more n = sym (map-id (range_with_len 0 (n + 1))) ∙ map-range_with_len_more (λ x. x) 0 n n (omega arith) ∙ ap (λ l. l ++ n ∷ []) (map-id (range_with_len 0 n))

one_kept : (p : ℕ → Bool) (n : ℕ) → p n ≡ true → filter p (n ∷ []) ≡ n ∷ []
one_kept p n is = ap (λ b. cond b (n ∷ []) []) is

one_left : (p : ℕ → Bool) (n : ℕ) → p n ≡ false → filter p (n ∷ []) ≡ []
one_left p n is = ap (λ b. cond b (n ∷ []) []) is

-- what is appended for one number more that is in the set
pub noted_more : {X : Type 0} (f : ℕ → List X) (p : ℕ → Bool) (n : ℕ) (first old new : List X) → p n ≡ true → old ≡ first ++ flat_map f (filter p (range_with_len 0 n)) → new ≡ old ++ f n → new ≡ first ++ flat_map f (filter p (range_with_len 0 (n + 1)))
noted_more f p n first old new is before added =
    added ∙ ap (λ l. l ++ f n) before ∙ append_assoc first (flat_map f (filter p (range_with_len 0 n))) (f n)
    ∙ ap (λ l. first ++ l) (ap (λ l. flat_map f (filter p (range_with_len 0 n)) ++ l) (sym (append-nil (f n))) ∙ sym (flat_map-append f (filter p (range_with_len 0 n)) (n ∷ []))
    ∙ ap (flat_map f) (ap (λ l. filter p (range_with_len 0 n) ++ l) (sym (one_kept p n is)) ∙ sym (filter-append p (range_with_len 0 n) (n ∷ [])) ∙ ap (filter p) (sym (range_more n))))

-- and for one that is not
pub noted_same : {X : Type 0} (f : ℕ → List X) (p : ℕ → Bool) (n : ℕ) (first new : List X) → p n ≡ false → new ≡ first ++ flat_map f (filter p (range_with_len 0 n)) → new ≡ first ++ flat_map f (filter p (range_with_len 0 (n + 1)))
noted_same f p n first new is before =
    before ∙ ap (λ l. first ++ flat_map f l) (sym (append-nil (filter p (range_with_len 0 n))) ∙ ap (λ l. filter p (range_with_len 0 n) ++ l) (sym (one_left p n is)) ∙ sym (filter-append p (range_with_len 0 n) (n ∷ [])) ∙ ap (filter p) (sym (range_more n)))

-- a line and two lists of lines are appended one after the other
pub lines_added : (old pushed noted new : List (List ℕ)) (line : List ℕ) (first second : List (List ℕ)) → pushed ≡ old ++ line ∷ [] → noted ≡ pushed ++ first → new ≡ noted ++ second → new ≡ old ++ line ∷ (first ++ second)
lines_added old pushed noted new line first second put before after =
    after ∙ ap (λ l. l ++ second) (before ∙ ap (λ l. l ++ first) put) ∙ append_assoc (old ++ line ∷ []) first second ∙ append_assoc old (line ∷ []) (first ++ second)
