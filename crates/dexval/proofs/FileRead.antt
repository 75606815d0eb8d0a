-- Items that are read at an offset of a file.
use Rattle.dexval.proofs.Common.{◌≡◌, ℕ, ◌^◌, ◌≤◌, List, [], ◌∷◌, length, take, refl, zero, suc, arith, subst, BeginsWith, IsUleb128, IsChain, Values, EncodedArrayItemAt, most_depth, EncodedValueAt, Mentions, ArePools, IsNumbering, NoValueAt, HasPools, NoArrayAt}
use Rattle.dexspec.specs.Conditions.{Condition}
use Rattle.dexspec.specs.Accepted.{IsFrame}
use Rattle.dexspec.specs.Values.{Value}

-- a file has at most 2 ^ 30 bytes
pub few_bytes : (b : List ℕ) → IsFrame b → length b ≤ 2 ^ 30
few_bytes b frame = (frame Condition.Size (omega arith) 0 (omega arith)).most

-- the pools of a file
pub file_pools : (b : List ℕ) (m n : Mentions) → n ≡ m → IsNumbering n → ArePools b m → HasPools b m
file_pools b m n e is pools = record { pools = pools; rising = (subst IsNumbering e is).rising }

pub no_value : (b : List ℕ) (off : ℕ) → NoValueAt b off most_depth → (v : Value) (n : ℕ) → EncodedValueAt b off v n → ⊥
no_value b off none v n h = none v n h.encodes h.shallow

pub no_statics : (b : List ℕ) (off : ℕ) → NoArrayAt b off most_depth → (vs : Values) (n : ℕ) → EncodedArrayItemAt b off vs n → ⊥
no_statics b off none vs n h = none vs n h.array h.shallow

take-nil : (n : ℕ) → take {A = ℕ} n [] ≡ []
take-nil zero = refl
take-nil (suc n) = refl

-- the empty list of bytes is no number
some_bytes : (bytes : List ℕ) (v n : ℕ) → length bytes ≡ 0 → BeginsWith IsUleb128 bytes v n → ⊥
some_bytes [] v n e h = (subst IsChain (take-nil n) h.spelled.chain)
some_bytes (b ∷ bs) v n e h = absurd (omega arith)
