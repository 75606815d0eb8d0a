-- There is at most one number at an offset, in one size.
use Rattle.dexspec.proofs.Common.{◌≡◌, ℕ, ◌^◌, ◌<◌, List, drop, Option, sym, ℤ, FitsSigned, w32}
use Rattle.dexspec.specs.{Uleb128At, Sleb128At, Uleb128p1At, sum_of_groups, signed_sum, plus_one}
use Rattle.dexspec.proofs.numbers.Spellings.{same_number, same_plus_one, begins_plus_one}

-- one uleb128
pub one_uleb128 : (b : List ℕ) (o : ℕ) (v w n k : ℕ) → Uleb128At b o v n → Uleb128At b o w k → (v ≡ w) × (n ≡ k)
one_uleb128 b o v w n k h g = let e = same_number sum_of_groups (λ v. v < 2 ^ 32) (drop o b) v w n k h g in (sym e.0, sym e.1)

-- one sleb128
pub one_sleb128 : (b : List ℕ) (o : ℕ) (v w : ℤ) (n k : ℕ) → Sleb128At b o v n → Sleb128At b o w k → (v ≡ w) × (n ≡ k)
one_sleb128 b o v w n k h g = let e = same_number signed_sum (FitsSigned w32) (drop o b) v w n k h g in (sym e.0, sym e.1)

-- one uleb128p1
pub one_uleb128p1 : (b : List ℕ) (o : ℕ) (v w : Option ℕ) (n k : ℕ) → Uleb128p1At b o v n → Uleb128p1At b o w k → (v ≡ w) × (n ≡ k)
one_uleb128p1 b o v w n k h g =
    let e = one_uleb128 b o (plus_one v) (plus_one w) n k ((begins_plus_one (drop o b) v n).0 h) ((begins_plus_one (drop o b) w k).0 g) in
    (same_plus_one v w e.0, e.1)
