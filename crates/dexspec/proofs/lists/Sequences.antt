-- Items in sequence: there is at most one list of a given length at an offset, if there is at most one item at an
-- offset.
use Rattle.dexspec.proofs.Common.{◌≡◌, ℕ, ◌+◌, List, [], ◌∷◌, length, refl, sym, subst, ◌∙◌, arith}
use Rattle.dexspec.specs.{Item, Sequence}

-- and no other items are
pub one_sequence : {X : Type 0} (At : Item X) → ((b : List ℕ) (o : ℕ) (x y : X) (n k : ℕ) → At b o x n → At b o y k → (x ≡ y) × (n ≡ k))
    → (b : List ℕ) (o : ℕ) (xs ys : List X) (n k : ℕ) → length xs ≡ length ys → Sequence At b o xs n → Sequence At b o ys k → (xs ≡ ys) × (n ≡ k)
one_sequence At one b o [] [] n k len h g = (refl, h ∙ sym g)
one_sequence At one b o [] (y ∷ ys) n k len h g = absurd (omega arith)
one_sequence At one b o (x ∷ xs) [] n k len h g = absurd (omega arith)
one_sequence At one b o (x ∷ xs) (y ∷ ys) n k len h g =
    let first = one b o x y h.0 g.0 h.2 g.2 in
    let rest = one_sequence At one b (o + g.0) xs ys h.1 g.1 (omega arith) (subst (λ (i : ℕ). Sequence At b (o + i) xs h.1) first.1 h.3) g.3 in
    ((λ i. first.0 i ∷ rest.0 i), omega (arith, h.4, g.4, first.1, rest.1))
