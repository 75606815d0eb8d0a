-- The units of a code_item, and that they are code.
use Rattle.dexinsn.proofs.Common.{◌≡◌, ℕ, ◌+◌, ◌*◌, ◌%◌, ◌^◌, ◌<◌, List, drop, take, Ok, Err, ap, sym, ◌∙◌, subst, arith, drop-drop, uint_at, ushorts_at, IsInData, Cut, IsCode, BreaksAt, HasCodeRoom, AreUnitsAt}
use Rattle.dexinsn.specs.{units_in}
use Rattle.dexinsn.specs.declared.code.SplitFault.TheVariants.{Piece}
use Rattle.dexinsn.proofs.Halves.{uint_after, units_of_part}
use Rattle.dexinsn.proofs.Once.{result_once}

-- there is no room if there is none for n units
pub no_room : (b : List ℕ) (off n : ℕ) → n ≡ uint_at (drop off b) 12 → (IsInData b off (16 + 2 * n) → ⊥) → HasCodeRoom b off → ⊥
no_room b off n is none r = none (subst (λ (k : ℕ). IsInData b off (16 + 2 * k)) (sym (is ∙ uint_after b off 12)) r.in_data)

-- the bytes after the fixed part
pub units_there : (b : List ℕ) (off n : ℕ) (rest bytes : List ℕ) → n ≡ uint_at (drop off b) 12 → n < 2 ^ 32 → off % 4 ≡ 0 → IsInData b off (16 + 2 * n) → rest ≡ drop 16 (drop off b) → bytes ≡ take (2 * n) rest → AreUnitsAt b off bytes
units_there b off n rest bytes is small aligned room following front =
    let count : n ≡ uint_at b (off + 12) = is ∙ uint_after b off 12 in
    record {
      room = record { in_data = subst (λ (k : ℕ). IsInData b off (16 + 2 * k)) count room; aligned = aligned };
      units = ap units_in (front ∙ ap (take (2 * n)) (following ∙ drop-drop 16 off b)) ∙ units_of_part b (off + 16) n (omega (arith, room.within)) ∙ ap (ushorts_at b (off + 16)) count;
      few = subst (λ (k : ℕ). k < 2 ^ 32) count small;
    }

-- units that break are no code
pub broken_is_none : (us : List ℕ) (n : ℕ) → BreaksAt us n → (cuts : List Cut) → IsCode us cuts → ⊥
broken_is_none us n h cuts code = let e : Ok cuts ≡ Err (Piece n) = result_once us (Ok cuts) (Err (Piece n)) code h in cc
