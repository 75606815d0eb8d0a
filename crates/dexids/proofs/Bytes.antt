-- Numbers in a row, and texts after the end.
use Rattle.dexids.proofs.Common.{◌≡◌, ℕ, ◌+◌, ◌-◌, ◌<◌, ◌≤◌, List, [], ◌∷◌, ◌++◌, length, take, drop, ap, ◌∙◌, arith, length-append, length-take, length-drop, drop-drop, drop-take, take-take, number_of, ushort_at, uint_at, StringDataAt, spelling}

part_of : (b : List ℕ) (o n p k : ℕ) → p + k ≤ n → take k (drop p (take n (drop o b))) ≡ take k (drop (o + p) b)
part_of b o n p k le =
    let whole : n ≡ p + (n - p) = omega (arith, le) in
    ap (λ (m : ℕ). take k (drop p (take m (drop o b)))) whole ∙ ap (take k) (drop-take p (n - p) (drop o b)) ∙ take-take k (n - p) (drop p (drop o b)) (omega (arith, le)) ∙ ap (take k) (drop-drop p o b)

-- the number in a row is that in the file
pub uint_at_row : (b row : List ℕ) (o n p q : ℕ) → row ≡ take n (drop o b) → p + 4 ≤ n → o + p ≡ q → uint_at row p ≡ uint_at b q
unfolding uint_at
uint_at_row b row o n p q e le at = ap (λ (r : List ℕ). number_of (take 4 (drop p r))) e ∙ ap number_of (part_of b o n p 4 le) ∙ ap (λ (m : ℕ). number_of (take 4 (drop m b))) at

pub ushort_at_row : (b row : List ℕ) (o n p q : ℕ) → row ≡ take n (drop o b) → p + 2 ≤ n → o + p ≡ q → ushort_at row p ≡ ushort_at b q
unfolding ushort_at
ushort_at_row b row o n p q e le at = ap (λ (r : List ℕ). number_of (take 2 (drop p r))) e ∙ ap number_of (part_of b o n p 2 le) ∙ ap (λ (m : ℕ). number_of (take 2 (drop m b))) at

-- the number after an offset
pub uint_at_rest : (b rest : List ℕ) (o p q : ℕ) → rest ≡ drop o b → o + p ≡ q → uint_at rest p ≡ uint_at b q
unfolding uint_at
uint_at_rest b rest o p q e at = ap (λ (r : List ℕ). number_of (take 4 (drop p r))) e ∙ ap (λ (r : List ℕ). number_of (take 4 r)) (drop-drop p o b) ∙ ap (λ (m : ℕ). number_of (take 4 (drop m b))) at

pub ushort_at_rest : (b rest : List ℕ) (o p q : ℕ) → rest ≡ drop o b → o + p ≡ q → ushort_at rest p ≡ ushort_at b q
unfolding ushort_at
ushort_at_rest b rest o p q e at = ap (λ (r : List ℕ). number_of (take 2 (drop p r))) e ∙ ap (λ (r : List ℕ). number_of (take 2 r)) (drop-drop p o b) ∙ ap (λ (m : ℕ). number_of (take 2 (drop m b))) at

-- there is no text after the end
pub no_text_after : (b : List ℕ) (o n : ℕ) (s : List ℕ) → length b < o → StringDataAt b o s n → ⊥
no_text_after b o n s lt h = omega (arith, h.within, length-drop o b, length-take n (drop o b), ap length h.spelled.parts, length-append h.spelled.count (spelling s ++ 0 ∷ []), length-append (spelling s) (0 ∷ []))
