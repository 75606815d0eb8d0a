-- A text has at most three bytes for each unit.
use Rattle.dexstr.proofs.Common.{◌≡◌, ℕ, suc, ◌+◌, ◌*◌, ◌≤◌, List, [], ◌∷◌, ◌++◌, ap, length, arith, form, spelling, AreUnits, Shape, One, Two, Three, shape_of, units_of, IsSpelling}

-- ---- bytes for a unit

short_form : (bytes : List ℕ) (u : ℕ) (rest : List ℕ) → Shape bytes u rest → length bytes ≤ 3 + length rest
short_form bytes u rest (One some small e) = omega (arith, ap length e)
short_form bytes u rest (Two which small e) = omega (arith, ap length e)
short_form bytes u rest (Three large small e) = omega (arith, ap length e)

-- at most three
length-spelling : (s : List ℕ) → AreUnits s → length (spelling s) ≤ 3 * length s
length-spelling [] units = omega arith
length-spelling (u ∷ s) units = omega (arith, short_form (form u ++ spelling s) u (spelling s) (shape_of u (spelling s) (units 0 0 (omega arith))), length-spelling s (λ k d lt. units (suc k) d (omega arith)))

pub spelled_length : (bytes s : List ℕ) → IsSpelling bytes → units_of bytes ≡ s → length bytes ≤ 3 * length s
spelled_length bytes s spelled is =
    let same : spelling s ≡ bytes = rw (← is) spelled.parts in
    rw (← same) (length-spelling s (rw is at spelled.units))
