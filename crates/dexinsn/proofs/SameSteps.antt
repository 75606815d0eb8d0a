-- Comparing units in parts, and indices one by one.
use Rattle.dexinsn.proofs.Common.{◌≡◌, ℕ, zero, suc, ◌+◌, ◌-◌, ◌*◌, ◌/◌, ◌<◌, ◌≤◌, List, [], ◌∷◌, length, drop, take, get_or, refl, ap, sym, ◌∙◌, subst, arith, AllZip, flat_map, drop_all, ushort, ushorts_at, is_wide_index, Index, after_index, Agree, AgreeBeside}
use Rattle.dexinsn.specs.{units_in}
use Rattle.dexinsn.proofs.Halves.{length_from, ushorts_from, units_of_part}
use Rattle.dexinsn.proofs.PutUnits.{next_is, ushorts_taken, part_bytes}
use Rattle.dexinsn.proofs.SamePieces.{agree_part, part_agrees}

-- the units of a part of bytes
part_units : (b : List ℕ) (from to : ℕ) → from ≤ to → 2 * to ≤ length b → take (to - from) (drop from (units_in b)) ≡ units_in (take (2 * (to - from)) (drop (2 * from) b))
part_units b from to le within =
    let n : length b / 2 ≡ length (units_in b) = sym (length_from b) in
    let z : 0 + 2 * from ≡ 2 * from = omega arith in
    ap (take (to - from)) (ushorts_from b 0 (length b / 2) from (omega arith)) ∙ ushorts_taken b (0 + 2 * from) (length b / 2 - from) (to - from) (omega arith) ∙ ap (λ (k : ℕ). ushorts_at b k (to - from)) z
    ∙ sym (units_of_part b (2 * from) (to - from) (omega arith))

-- the same bytes are the same units
pub units_agree : (a b : List ℕ) (from to : ℕ) → from ≤ to → 2 * to ≤ length a → 2 * to ≤ length b → take (2 * (to - from)) (drop (2 * from) a) ≡ take (2 * (to - from)) (drop (2 * from) b) → Agree (units_in a) (units_in b) from to
units_agree a b from to le one two e =
    let end : from + (to - from) ≡ to = omega arith in
    subst (λ (k : ℕ). Agree (units_in a) (units_in b) from k) end
    (part_agrees (units_in a) (units_in b) from (to - from) (part_units a from to le one ∙ ap units_in e ∙ sym (part_units b from to le two)))

-- and the other way
pub bytes_agree : (a b : List ℕ) (from to : ℕ) → from ≤ to → 2 * to ≤ length a → 2 * to ≤ length b → ((i : ℕ) → get_or a i 0 < 256) → ((i : ℕ) → get_or b i 0 < 256) → Agree (units_in a) (units_in b) from to → take (2 * (to - from)) (drop (2 * from) a) ≡ take (2 * (to - from)) (drop (2 * from) b)
bytes_agree a b from to le one two small few h =
    let end : to ≡ from + (to - from) = omega arith in
    let same : take (to - from) (drop from (units_in a)) ≡ take (to - from) (drop from (units_in b)) =
    agree_part (units_in a) (units_in b) from (to - from) (omega (arith, length_from a)) (omega (arith, length_from b)) (subst (λ (k : ℕ). Agree (units_in a) (units_in b) from k) end h) in
    sym (part_bytes a from to le one small) ∙ ap (flat_map ushort) same ∙ part_bytes b from to le two few

-- the part before the next index, and what is after it
pub beside_next : (us vs : List ℕ) (from : ℕ) (is : List Index) (k : ℕ) (d : Index) → k < length is → AgreeBeside us vs from (drop k is)
    → Agree us vs from ((get_or is k d).unit + 1) × AgreeBeside us vs (after_index (is_wide_index (drop (get_or is k d).unit us)) (get_or is k d).unit) (drop (k + 1) is)
beside_next us vs from is k d lt h = subst (AgreeBeside us vs from) (next_is is k d lt) h

pub beside_before : (us vs : List ℕ) (from : ℕ) (is : List Index) (k : ℕ) (d : Index) → k < length is → Agree us vs from ((get_or is k d).unit + 1)
    → AgreeBeside us vs (after_index (is_wide_index (drop (get_or is k d).unit us)) (get_or is k d).unit) (drop (k + 1) is) → AgreeBeside us vs from (drop k is)
beside_before us vs from is k d lt a h = let both : AgreeBeside us vs from (get_or is k d ∷ drop (k + 1) is) = (a, h) in subst (AgreeBeside us vs from) (sym (next_is is k d lt)) both

-- after the last index
pub beside_last : (us vs : List ℕ) (from : ℕ) (is : List Index) (k : ℕ) → length is ≤ k → AgreeBeside us vs from (drop k is) → Agree us vs from (length us)
beside_last us vs from is k end h = subst (AgreeBeside us vs from) (drop_all k is end) h

pub last_beside : (us vs : List ℕ) (from : ℕ) (is : List Index) (k : ℕ) → length is ≤ k → Agree us vs from (length us) → AgreeBeside us vs from (drop k is)
last_beside us vs from is k end h = subst (AgreeBeside us vs from) (sym (drop_all k is end)) h

-- pair by pair
pub zip_from : (P : Index → Index → Type 0) (xs ys : List Index) (d : Index) → length xs ≡ length ys → ((k : ℕ) → k < length xs → P (get_or xs k d) (get_or ys k d)) → AllZip P xs ys
zip_from P [] [] d same h = tt
zip_from P (x ∷ xs) (y ∷ ys) d same h = (h 0 (omega arith), zip_from P xs ys d (omega arith) (λ k lt. h (suc k) (omega arith)))
zip_from _ _ _ d same h = absurd (omega arith)

pub zip_at : (P : Index → Index → Type 0) (xs ys : List Index) (d : Index) (k : ℕ) → k < length xs → AllZip P xs ys → P (get_or xs k d) (get_or ys k d)
zip_at P [] ys d k lt h = absurd (omega arith)
zip_at P (x ∷ xs) [] d k lt h = absurd h
zip_at P (x ∷ xs) (y ∷ ys) d zero lt h = h.0
zip_at P (x ∷ xs) (y ∷ ys) d (suc k) lt h = zip_at P xs ys d k (omega arith) h.1

pub zip_length : (P : Index → Index → Type 0) (xs ys : List Index) → AllZip P xs ys → length xs ≡ length ys
zip_length P [] [] h = refl
zip_length P (x ∷ xs) (y ∷ ys) h = ap suc (zip_length P xs ys h.1)
zip_length _ _ _ h = absurd h
