-- Parts of numbers that bytes encode, two bytes for each.
use Rattle.dexids.proofs.Common.{◌≡◌, ℕ, zero, suc, ◌+◌, ◌-◌, ◌*◌, ◌/◌, ◌≤◌, List, ◌∷◌, length, take, drop, refl, sym, ap, ◌∙◌, arith, length-take, length-drop, ushort_at, ushorts_at, length-ushorts_at, Span, span_of, HasSpan, file_numbers}
use Rattle.dexids.proofs.Bytes.{ushort_at_row}

drop_shorts : (b : List ℕ) (o m k : ℕ) → k ≤ m → drop k (ushorts_at b o m) ≡ ushorts_at b (o + 2 * k) (m - k)
drop_shorts b o m zero le = let e : o ≡ o + 2 * 0 = omega arith in let f : m ≡ m - 0 = omega arith in λ i. ushorts_at b (e i) (f i)
drop_shorts b o zero (suc k) le = absurd (omega arith)
drop_shorts b o (suc m) (suc k) le = let e : o + 2 + 2 * k ≡ o + 2 * suc k = omega arith in let f : m - k ≡ suc m - suc k = omega arith in drop_shorts b (o + 2) m k (omega arith) ∙ (λ i. ushorts_at b (e i) (f i))

take_shorts : (b : List ℕ) (o m n : ℕ) → n ≤ m → take n (ushorts_at b o m) ≡ ushorts_at b o n
take_shorts b o m zero le = refl
take_shorts b o zero (suc n) le = absurd (omega arith)
take_shorts b o (suc m) (suc n) le = ap (λ (l : List ℕ). ushort_at b o ∷ l) (take_shorts b (o + 2) m n (omega arith))

-- the numbers of a part are those that its bytes encode
shorts_within : (b row : List ℕ) (o n : ℕ) → row ≡ take (2 * n) (drop o b) → (p m : ℕ) → p + 2 * m ≤ 2 * n → ushorts_at row p m ≡ ushorts_at b (o + p) m
shorts_within b row o n e p zero le = refl
shorts_within b row o n e p (suc m) le =
    let next : o + (p + 2) ≡ o + p + 2 = omega arith in
    λ i. (ushort_at_row b row o (2 * n) p (o + p) e (omega arith) refl) i ∷ (shorts_within b row o n e (p + 2) m (omega arith) ∙ ap (λ (k : ℕ). ushorts_at b k m) next) i

-- a part of the numbers of a list of bytes
pub part_of_file : (b : List ℕ) (s : Span) → HasSpan (file_numbers b) s → span_of (file_numbers b) s ≡ ushorts_at b (2 * s.start) (s.end - s.start)
part_of_file b s h =
    let count = length-ushorts_at b 0 (length b / 2) in
    let e : 0 + 2 * s.start ≡ 2 * s.start = omega arith in
    ap (take (s.end - s.start)) (drop_shorts b 0 (length b / 2) s.start (omega (arith, h.ordered, h.within, count)))
    ∙ take_shorts b (0 + 2 * s.start) (length b / 2 - s.start) (s.end - s.start) (omega (arith, h.ordered, h.within, count)) ∙ ap (λ (k : ℕ). ushorts_at b k (s.end - s.start)) e

-- and the bytes that encode it
pub bytes_of_part : (b part : List ℕ) (s : Span) → HasSpan (file_numbers b) s → part ≡ take (2 * (s.end - s.start)) (drop (2 * s.start) b) → ushorts_at part 0 (length part / 2) ≡ span_of (file_numbers b) s
bytes_of_part b part s h e =
    let long : length part ≡ 2 * (s.end - s.start) = omega (arith, ap (λ (l : List ℕ). length l) e, length-take (2 * (s.end - s.start)) (drop (2 * s.start) b), length-drop (2 * s.start) b, h.ordered, h.within, length-ushorts_at b 0 (length b / 2)) in
    let half : length part / 2 ≡ s.end - s.start = omega (arith, long) in
    let at : 2 * s.start + 0 ≡ 2 * s.start = omega arith in
    ap (ushorts_at part 0) half ∙ shorts_within b part (2 * s.start) (s.end - s.start) e 0 (s.end - s.start) (omega arith) ∙ ap (λ (k : ℕ). ushorts_at b k (s.end - s.start)) at ∙ sym (part_of_file b s h)
