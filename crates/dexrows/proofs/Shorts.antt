-- Numbers of two bytes, one after the other; and two lists compared number by number.
use Rattle.dexrows.proofs.Common.{◌≡◌, ℕ, zero, suc, ◌+◌, ◌*◌, ◌<◌, List, [], ◌∷◌, length, get_or, drop, min, refl, sym, ap, ◌∙◌, arith, inl, inr, Ordering, Less, Equal, Greater, nat_cmp, ordering_then, nat_cmp_is, cases_order, drop_more, ushort_at, ushorts_at, key_cmp}

pub short_of : (b : List ℕ) (o n k d : ℕ) → k < n → get_or (ushorts_at b o n) k d ≡ ushort_at b (o + 2 * k)
short_of b o zero k d lt = absurd (omega arith)
short_of b o (suc n) zero d lt = ap (ushort_at b) (omega arith)
short_of b o (suc n) (suc k) d lt = short_of b (o + 2) n k d (omega arith) ∙ ap (ushort_at b) (omega arith)

-- ---- comparing

-- the order at a place, and then that after it
pub key_at : (xs ys : List ℕ) (i d : ℕ) → i < length xs → i < length ys → key_cmp (drop i xs) (drop i ys) ≡ ordering_then (nat_cmp (get_or xs i d) (get_or ys i d)) (key_cmp (drop (i + 1) xs) (drop (i + 1) ys))
key_at xs ys i d lt less = rw (drop_more xs i d lt, drop_more ys i d less) refl

pub key_differs : (a b c : Ordering) → a ≡ b → (b ≡ Equal → ⊥) → ordering_then a c ≡ b
key_differs Equal b c e n = absurd (n (sym e))
key_differs x b c e n = e

pub key_agrees : (a c : Ordering) → a ≡ Equal → ordering_then a c ≡ c
key_agrees Equal c e = refl
key_agrees _ c e = absurd cc

nat_cmp-suc : (m n : ℕ) → nat_cmp (suc m) (suc n) ≡ nat_cmp m n
nat_cmp-suc m n = elim (cases_order m n) [
  | inl same ↦ sym (nat_cmp_is (suc m) (suc n) Equal (ap suc same)) ∙ nat_cmp_is m n Equal same
  | inr (inl less) ↦ sym (nat_cmp_is (suc m) (suc n) Less (omega arith)) ∙ nat_cmp_is m n Less less
  | inr (inr more) ↦ sym (nat_cmp_is (suc m) (suc n) Greater (omega arith)) ∙ nat_cmp_is m n Greater more
]

-- where one of them ends, the longer one is greater
pub key_ended : (xs ys : List ℕ) (i : ℕ) → i ≡ min (length xs) (length ys) → nat_cmp (length xs) (length ys) ≡ key_cmp (drop i xs) (drop i ys)
key_ended [] [] i e = let z : i ≡ 0 = omega arith in rw z refl
key_ended [] (y ∷ ys) i e = let z : i ≡ 0 = omega arith in rw z (sym (nat_cmp_is 0 (suc (length ys)) Less (omega arith)))
key_ended (x ∷ xs) [] i e = let z : i ≡ 0 = omega arith in rw z (sym (nat_cmp_is (suc (length xs)) 0 Greater (omega arith)))
key_ended (x ∷ xs) (y ∷ ys) zero e = absurd (omega arith)
key_ended (x ∷ xs) (y ∷ ys) (suc i) e = nat_cmp-suc (length xs) (length ys) ∙ key_ended xs ys i (omega arith)
