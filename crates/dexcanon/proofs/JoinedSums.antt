-- The two sums of joined bytes, from those of each part.
use Rattle.dexcanon.proofs.Common.{◌≡◌, ℕ, suc, ◌+◌, ◌*◌, ◌<◌, List, [], ◌∷◌, ◌++◌, length, sym, ap, ◌∙◌, arith, ◌%◌, ◌/◌, fold-append, adler_step, adler_sums, adler_number, adler_32}

-- both sums are reduced
abbrev AreReduced : ℕ × ℕ → Type 0
AreReduced s = (s.0 < 65521) × (s.1 < 65521)

pub sums_reduced : (s : ℕ × ℕ) (ys : List ℕ) → AreReduced s → AreReduced (adler_sums s ys)
sums_reduced s [] h = h
sums_reduced s (y ∷ ys) h = sums_reduced (adler_step s y) ys (omega arith, omega arith)

-- sums that are D and E ahead stay so: the second by D more for each byte
pub ahead : (ys : List ℕ) (s t : ℕ × ℕ) (D E : ℕ) → s.0 ≡ (t.0 + D) % 65521 → s.1 ≡ (t.1 + E) % 65521 → ((adler_sums s ys).0 ≡ ((adler_sums t ys).0 + D) % 65521) × ((adler_sums s ys).1 ≡ ((adler_sums t ys).1 + (E + length ys * D)) % 65521)
ahead [] s t D E first second = (first, second ∙ ap (λ n. (t.1 + n) % 65521) (let e : E ≡ E + 0 * D = omega arith in e))
ahead (y ∷ ys) s t D E first second =
    let next = ahead ys (adler_step s y) (adler_step t y) D (E + D) (omega (arith, first)) (omega (arith, first, second)) in
    (next.0, next.1 ∙ ap (λ n. ((adler_sums (adler_step t y) ys).1 + n) % 65521) (more E D (length ys)))
  where
    more : (a b n : ℕ) → (a + b) + n * b ≡ a + suc n * b
    more a b n = omega arith

-- the sums of xs ++ ys
pub joined_sums : (xs ys : List ℕ) → let s = adler_sums (1, 0) xs in let t = adler_sums (1, 0) ys in
    ((adler_sums (1, 0) (xs ++ ys)).0 ≡ (t.0 + (s.0 + 65520)) % 65521) × ((adler_sums (1, 0) (xs ++ ys)).1 ≡ ((t.1 + s.1) + length ys * (s.0 + 65520)) % 65521)
joined_sums xs ys =
    let s = adler_sums (1, 0) xs in
    let t = adler_sums (1, 0) ys in
    let small = sums_reduced (1, 0) xs (omega arith, omega arith) in
    let all : adler_sums (1, 0) (xs ++ ys) ≡ adler_sums s ys = fold-append adler_step (1, 0) xs ys in
    let h = ahead ys s (1, 0) (s.0 + 65520) s.1 (omega (arith, small.0)) (omega (arith, small.1)) in
    (ap (λ (p : ℕ × ℕ). p.0) all ∙ h.0, ap (λ (p : ℕ × ℕ). p.1) all ∙ h.1 ∙ ap (λ n. n % 65521) (let e : t.1 + (s.1 + length ys * (s.0 + 65520)) ≡ (t.1 + s.1) + length ys * (s.0 + 65520) = omega arith in e))

-- the two sums of a number
pub number_parts : (s : ℕ × ℕ) → s.0 < 65521 → (adler_number s % 65536 ≡ s.0) × (adler_number s / 65536 ≡ s.1)
number_parts s lt = (omega (arith, lt), omega (arith, lt))

abbrev pair : ℕ → ℕ → ℕ × ℕ
pair a b = (a, b)

-- the Adler-32 of xs ++ ys, from the two numbers of those of xs and ys
pub joined_adler : (xs ys : List ℕ) (front back len : ℕ) (p q : ℕ × ℕ) → p ≡ (front % 65536, front / 65536) → q ≡ (back % 65536, back / 65536) → front ≡ adler_32 xs → back ≡ adler_32 ys → len ≡ length ys
    → ((((q.1 + p.1) + len * (p.0 + 65520)) % 65521) * 65536 + (q.0 + (p.0 + 65520)) % 65521) ≡ adler_32 (xs ++ ys)
unfolding adler_32
joined_adler xs ys front back len p q pe qe f b l =
    let s = adler_sums (1, 0) xs in
    let t = adler_sums (1, 0) ys in
    let halves : ℕ → ℕ × ℕ = λ n. (n % 65536, n / 65536) in
    let fs = number_parts s (sums_reduced (1, 0) xs (omega arith, omega arith)).0 in
    let bs = number_parts t (sums_reduced (1, 0) ys (omega arith, omega arith)).0 in
    let first : p ≡ s = pe ∙ ap halves f ∙ both fs.0 fs.1 in
    let second : q ≡ t = qe ∙ ap halves b ∙ both bs.0 bs.1 in
    let F : ℕ × ℕ → ℕ × ℕ → ℕ → ℕ = λ p q n. (((q.1 + p.1) + n * (p.0 + 65520)) % 65521) * 65536 + (q.0 + (p.0 + 65520)) % 65521 in
    ap (λ z. F z q len) first ∙ ap (λ z. F s z len) second ∙ ap (F s t) l
    ∙ ap (λ n. n * 65536 + (t.0 + (s.0 + 65520)) % 65521) (sym (joined_sums xs ys).1)
    ∙ ap (λ n. (adler_sums (1, 0) (xs ++ ys)).1 * 65536 + n) (sym (joined_sums xs ys).0)
  where
    both : {a b c d : ℕ} → a ≡ c → b ≡ d → pair a b ≡ pair c d
    both {b = b} {c = c} e f = ap (λ x. pair x b) e ∙ ap (pair c) f
