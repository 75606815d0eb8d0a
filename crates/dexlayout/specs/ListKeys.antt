-- Type lists that are the same are equal, and have the same hash.
use Rattle.std.specs.Prelude.{◌≡◌, ℕ, Bool, List, IsTrue}
use Rattle.std.proofs.Common.{ap, sym, ◌∙◌}
use Rattle.std.specs.Bool.{Decides}
use Rattle.std.specs.Cmp.{IsEquivalence, Equal-is}
use Rattle.std.specs.Cmp.Lexicographic.{nat_list_cmp_total}
use Rattle.std.specs.FinMap.{nat_cmp-IsAntisymmetric, slice_cmp-IsAntisymmetric}
use Rattle.std.specs.Ordering.{eq_by_cmp}
use Rattle.std.specs.Hash as fed
use Rattle.std.proofs.lemmas.Cmp.{eq_by_cmp_equiv, tied_itself}
use Rattle.dexspec.specs.Rows.{key_cmp}

-- whether two lists of numbers are the same
abbrev pub same_numbers : List ℕ → List ℕ → Bool
same_numbers = eq_by_cmp key_cmp

pub same_numbers_equiv : IsEquivalence same_numbers
same_numbers_equiv = eq_by_cmp_equiv nat_list_cmp_total

pub same_numbers_decides : (xs ys : List ℕ) → Decides (same_numbers xs ys) (xs ≡ ys)
same_numbers_decides xs ys = (
  λ e. slice_cmp-IsAntisymmetric nat_cmp-IsAntisymmetric xs ys ((Equal-is (key_cmp xs ys)).0 e),
  λ e. (Equal-is (key_cmp xs ys)).1 (ap (key_cmp xs) (sym e) ∙ tied_itself nat_list_cmp_total xs),
)

pub same_numbers_agree : (xs ys : List ℕ) → IsTrue (same_numbers xs ys)
    → fed.slice fed.usize xs ≡ fed.slice fed.usize ys
same_numbers_agree xs ys h = ap (fed.slice fed.usize) ((same_numbers_decides xs ys).0 h)
