-- Debug programs checked: what is at the offset and what it weighs.
use Rattle.dexdebug.proofs.Common.{◌≡◌, ℕ, false, List, nat_eq, Option, Some, ap, sym, subst, ◌∙◌, inl, inr, ne_eqb, arith, cases_eq, Mentions, HasDebugAt, HasDebugOf, IsShapeAt, DebugShape}
use Rattle.dexdebug.proofs.DebugMeanings.{weights_are}

-- the debug program that was checked is at the offset
pub debug_found : (b : List ℕ) (off : ℕ) (m : Mentions) (s : DebugShape) → IsShapeAt b off m s → HasDebugOf b off m s.weight → HasDebugAt b off s.weight
debug_found b off m s is h =
    record {
      program = h.at.program;
      at = h.at.at;
      weighs = omega (arith, weights_are m h.debug h.at.program h.at.encodes, h.weighs);
      light = omega (arith, is.shape.weight, is.shape.few, is.shape.operations.light, is.shape.operations.count, is.shape.operations.few);
    }

same_some : (v w : ℕ) → Some v ≡ Some w → v ≡ w
same_some v w e = cc

-- what holds of each number holds with one more of them
pub number_added : (P : ℕ → ℕ → Type 0) (f g : ℕ → Option ℕ) (o number : ℕ) → ((q n : ℕ) → f q ≡ Some n → P q n) → P o number → g o ≡ Some number → ((q : ℕ) → nat_eq o q ≡ false → g q ≡ f q) → (q n : ℕ) → g q ≡ Some n → P q n
number_added P f g o number old new here others q n e = elim (cases_eq o q) [
  | inl same ↦
      subst (P q) (same_some number n (sym here ∙ ap g same ∙ e)) (subst (λ (p : ℕ). P p number) same new)
  | inr other ↦ old q n (sym (others q (ne_eqb o q other)) ∙ e)
]
