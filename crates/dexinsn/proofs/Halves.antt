-- Units that bytes encode, two for each.
use Rattle.dexinsn.proofs.Common.{◌≡◌, ℕ, zero, suc, ◌+◌, ◌-◌, ◌*◌, ◌/◌, ◌≤◌, List, ◌∷◌, length, take, drop, refl, ap, ◌∙◌, arith, length-drop, drop-drop, drop-take, take-take, length-take-le, number_of, ushort_at, ushorts_at, uint_at, length-ushorts_at, ◌<◌, slice_index, sym}
use Rattle.dexinsn.specs.{units_in}

-- the unit at a place
unit_at : (b : List ℕ) (o n i : ℕ) → i < n → slice_index (ushorts_at b o n) i ≡ ushort_at b (o + 2 * i)
unit_at b o zero i lt = absurd (omega arith)
unit_at b o (suc n) zero lt = let e : o ≡ o + 2 * 0 = omega arith in ap (ushort_at b) e
unit_at b o (suc n) (suc i) lt = let e : o + 2 + 2 * i ≡ o + 2 * suc i = omega arith in unit_at b (o + 2) n i (omega arith) ∙ ap (ushort_at b) e

pub unit_from : (b : List ℕ) (i : ℕ) → i < length (units_in b) → ushort_at b (2 * i) ≡ slice_index (units_in b) i
unit_from b i lt = let l : length (units_in b) ≡ length b / 2 = length-ushorts_at b 0 (length b / 2) in let e : 2 * i ≡ 0 + 2 * i = omega arith in ap (ushort_at b) e ∙ sym (unit_at b 0 (length b / 2) i (omega arith))

pub length_from : (b : List ℕ) → length (units_in b) ≡ length b / 2
length_from b = length-ushorts_at b 0 (length b / 2)

-- a number after some bytes
pub ushort_after : (b : List ℕ) (k o : ℕ) → ushort_at (drop k b) o ≡ ushort_at b (k + o)
unfolding ushort_at
ushort_after b k o = simp drop-drop

-- the units after some bytes
pub ushorts_after : (b : List ℕ) (k o n : ℕ) → ushorts_at (drop k b) o n ≡ ushorts_at b (k + o) n
ushorts_after b k o zero = refl
ushorts_after b k o (suc n) =
    let e : k + (o + 2) ≡ k + o + 2 = omega arith in
    ap (λ (u : ℕ). u ∷ ushorts_at (drop k b) (o + 2) n) (ushort_after b k o) ∙ ap (λ (us : List ℕ). ushort_at b (k + o) ∷ us) (ushorts_after b k (o + 2) n ∙ ap (λ (m : ℕ). ushorts_at b m n) e)

-- the units from a place on
pub ushorts_from : (b : List ℕ) (o n k : ℕ) → k ≤ n → drop k (ushorts_at b o n) ≡ ushorts_at b (o + 2 * k) (n - k)
ushorts_from b o n zero le = let e : o ≡ o + 2 * 0 = omega arith in let f : n ≡ n - 0 = omega arith in ap (λ (m : ℕ). ushorts_at b m n) e ∙ ap (ushorts_at b (o + 2 * 0)) f
ushorts_from b o zero (suc k) le = absurd (omega arith)
ushorts_from b o (suc n) (suc k) le =
    let e : o + 2 + 2 * k ≡ o + 2 * suc k = omega arith in
    let f : n - k ≡ suc n - suc k = omega arith in ushorts_from b (o + 2) n k (omega arith) ∙ ap (λ (m : ℕ). ushorts_at b m (n - k)) e ∙ ap (ushorts_at b (o + 2 * suc k)) f

pub rest_from : (b : List ℕ) (at : ℕ) → at ≤ length (units_in b) → units_in (drop (2 * at) b) ≡ drop at (units_in b)
rest_from b at le =
    let l : length (units_in b) ≡ length b / 2 = length_from b in
    let m : length (drop (2 * at) b) ≡ length b - 2 * at = length-drop (2 * at) b in
    let e : 2 * at + 0 ≡ 0 + 2 * at = omega arith in
    let f : length (drop (2 * at) b) / 2 ≡ length b / 2 - at = omega arith in
    ushorts_after b (2 * at) 0 (length (drop (2 * at) b) / 2) ∙ ap (λ (o : ℕ). ushorts_at b o (length (drop (2 * at) b) / 2)) e ∙ ap (ushorts_at b (0 + 2 * at)) f ∙ sym (ushorts_from b 0 (length b / 2) at (omega arith))

-- the same for four bytes
pub uint_after : (b : List ℕ) (k o : ℕ) → uint_at (drop k b) o ≡ uint_at b (k + o)
unfolding uint_at
uint_after b k o = simp drop-drop

-- a number among the first bytes
ushort_prefix : (b : List ℕ) (m o : ℕ) → o + 2 ≤ m → ushort_at (take m b) o ≡ ushort_at b o
unfolding ushort_at
ushort_prefix b m o le = let e : m ≡ o + (m - o) = omega arith in ap number_of (ap (λ (k : ℕ). take 2 (drop o (take k b))) e ∙ ap (take 2) (drop-take o (m - o) b) ∙ take-take 2 (m - o) (drop o b) (omega arith))

-- units among the first bytes
ushorts_prefix : (b : List ℕ) (m o n : ℕ) → o + 2 * n ≤ m → ushorts_at (take m b) o n ≡ ushorts_at b o n
ushorts_prefix b m o zero le = refl
ushorts_prefix b m o (suc n) le = ap (λ (u : ℕ). u ∷ ushorts_at (take m b) (o + 2) n) (ushort_prefix b m o (omega arith)) ∙ ap (λ (us : List ℕ). ushort_at b o ∷ us) (ushorts_prefix b m (o + 2) n (omega arith))

-- the units of the bytes from a place on
pub units_of_part : (b : List ℕ) (k n : ℕ) → k + 2 * n ≤ length b → units_in (take (2 * n) (drop k b)) ≡ ushorts_at b k n
units_of_part b k n le =
    let l : length (drop k b) ≡ length b - k = length-drop k b in
    let m : length (take (2 * n) (drop k b)) ≡ 2 * n = length-take-le (2 * n) (drop k b) (omega arith) in
    let h : length (take (2 * n) (drop k b)) / 2 ≡ n = omega arith in
    let z : k + 0 ≡ k = omega arith in ap (ushorts_at (take (2 * n) (drop k b)) 0) h ∙ ushorts_prefix (drop k b) (2 * n) 0 n (omega arith) ∙ ushorts_after b k 0 n ∙ ap (λ (o : ℕ). ushorts_at b o n) z
