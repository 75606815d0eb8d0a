-- Files with one error are refused with its number.
use Rattle.dexexamples.proofs.Common.{◌≡◌, ℕ, ◌<◌, inl, ◌≤◌, List, [], ◌∷◌, refl, arith, All, All-from_recursion, number_of, uint_at, IsDigit, HasVersion, HasLengths, HasChecksum, adler_32, Condition, number, rows_checked, Holds, HoldBelow, place, IsRefused}
use Rattle.dexexamples.specs.{whole_a, changed_a, cut_a, later_a}

-- a condition without rows that is the first to fail
refused : (c : Condition) (b : List ℕ) (n p : ℕ) → n ≡ number c → n ≤ 16 → p ≡ place c b 0 → HoldBelow (number c) b → 0 < rows_checked c b → (Holds c b 0 → ⊥) → IsRefused b n p
refused c b n p numbered early placed before row fails = (c, 0, numbered, placed, inl (early, record { before = before; row = row; rows = λ k lt. absurd (omega arith); fails = fails }))

-- the digits 03 and a third one
digits : (c : ℕ) → 0x30 ≤ c → c ≤ 0x39 → All IsDigit (0x30 ∷ 0x33 ∷ c ∷ [])
digits c least most = All-from_recursion IsDigit (0x30 ∷ 0x33 ∷ c ∷ []) ((omega arith, omega arith), ((omega arith, omega arith), ((least, most), tt)))

-- ---- the changed byte

changed_before : HoldBelow 7 changed_a
unfolding changed_a whole_a uint_at number_of
changed_before Condition.Size below r row = record { least = omega arith; most = omega arith }
changed_before Condition.Magic below r row = record { word = refl; digits = digits 0x35 (omega arith) (omega arith); end = refl }
changed_before Condition.Version below r row = refl
changed_before Condition.Lengths below r row = record { file = refl; header = refl }
changed_before Condition.Endian below r row = refl
changed_before Condition.Link below r row = record { size = refl; off = refl }
changed_before _ below r row = absurd (omega arith)

changed_fails : HasChecksum changed_a → ⊥
unfolding changed_a whole_a uint_at number_of adler_32
changed_fails e = absurd (omega arith)

pub changed_refused : IsRefused changed_a 7 0
changed_refused = refused Condition.Checksum changed_a 7 0 refl (omega arith) refl changed_before (omega arith) changed_fails

-- ---- the missing byte

cut_before : HoldBelow 4 cut_a
unfolding cut_a whole_a
cut_before Condition.Size below r row = record { least = omega arith; most = omega arith }
cut_before Condition.Magic below r row = record { word = refl; digits = digits 0x35 (omega arith) (omega arith); end = refl }
cut_before Condition.Version below r row = refl
cut_before _ below r row = absurd (omega arith)

cut_fails : HasLengths cut_a → ⊥
unfolding cut_a whole_a uint_at number_of
cut_fails h = absurd (let e = h.file in omega arith)

pub cut_refused : IsRefused cut_a 4 0
cut_refused = refused Condition.Lengths cut_a 4 0 refl (omega arith) refl cut_before (omega arith) cut_fails

-- ---- version 038

later_before : HoldBelow 3 later_a
unfolding later_a whole_a
later_before Condition.Size below r row = record { least = omega arith; most = omega arith }
later_before Condition.Magic below r row = record { word = refl; digits = digits 0x38 (omega arith) (omega arith); end = refl }
later_before _ below r row = absurd (omega arith)

later_fails : HasVersion later_a → ⊥
unfolding later_a whole_a
later_fails e = absurd (omega arith)

later_place : 38 ≡ place Condition.Version later_a 0
unfolding later_a whole_a
later_place = refl

pub later_refused : IsRefused later_a 3 38
later_refused = refused Condition.Version later_a 3 38 refl (omega arith) later_place later_before (omega arith) later_fails
