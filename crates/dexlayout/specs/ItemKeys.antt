-- Encoded items that are the same are equal, and have the same hash.
use Rattle.std.specs.Prelude.{◌≡◌, ℕ, ◌==◌, Bool, List, [], ◌∷◌, IsTrue}
use Rattle.std.proofs.Common.{ap}
use Rattle.std.proofs.lemmas.Cmp.{lists_equiv, nat_eq_equiv}
use Rattle.std.specs.Cmp.{IsEquivalence, unsigned_Decides}
use Rattle.std.specs.Cmp.Lexicographic.{pointwise, pointwise_decides}

-- whether the bytes of two items are the same
abbrev pub same_bytes : List ℕ → List ℕ → Bool
same_bytes = pointwise ◌==◌

pub same_bytes_equiv : IsEquivalence same_bytes
same_bytes_equiv = lists_equiv nat_eq_equiv

pub same_bytes_agree : (xs ys : List ℕ) → IsTrue (same_bytes xs ys) → xs ∷ [] ≡ ys ∷ []
same_bytes_agree xs ys h = ap (λ bytes. bytes ∷ []) ((pointwise_decides unsigned_Decides xs ys).0 h)
