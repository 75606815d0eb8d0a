-- Numbers that are replaced in their order leave the order of keys as it is.
use Rattle.std.proofs.Common.{◌≡◌, ℕ, Bool, true, List, [], ◌∷◌, map, refl, sym, ap, ◌∙◌, inl, inr, Ordering, Less}
use Rattle.std.proofs.Common.{Equal, Greater}
use Rattle.std.specs.List.{All}
use Rattle.std.specs.Ordering.{nat_cmp, ordering_then}
use Rattle.std.specs.Cmp.{nat_cmp_is}
use Rattle.std.proofs.lemmas.Bool.{cases_order}
use Rattle.std.proofs.lemmas.List.Elements.{All-head, All-tail}
use Rattle.dexspec.specs.Rows.{key_cmp}
use Rattle.dexrows.specs.Numbers.{RisesOn}

-- orders that agree first, and then again
pub both_same : (a b c d : Ordering) → a ≡ b → c ≡ d → ordering_then a c ≡ ordering_then b d
both_same a b c d e f = λ i. ordering_then (e i) (f i)

pub same_number : (test : ℕ → Bool) (f : ℕ → ℕ) → RisesOn test f → (m n : ℕ) → test m ≡ true → test n ≡ true
    → nat_cmp (f m) (f n) ≡ nat_cmp m n
same_number test f rise m n p q = elim (cases_order m n) [
  | inl e ↦ sym (nat_cmp_is (f m) (f n) Equal (ap f e)) ∙ nat_cmp_is m n Equal e
  | inr other ↦ elim other [
    | inl less ↦ sym (nat_cmp_is (f m) (f n) Less (rise m n p q less)) ∙ nat_cmp_is m n Less less
    | inr more ↦ sym (nat_cmp_is (f m) (f n) Greater (rise n m q p more)) ∙ nat_cmp_is m n Greater more
  ]
]

pub same_numbers : (test : ℕ → Bool) (f : ℕ → ℕ) → RisesOn test f → (xs ys : List ℕ) → All (λ n. test n ≡ true) xs
    → All (λ n. test n ≡ true) ys → key_cmp (map f xs) (map f ys) ≡ key_cmp xs ys
same_numbers test f rise [] [] p q = refl
same_numbers test f rise [] (y ∷ ys) p q = refl
same_numbers test f rise (x ∷ xs) [] p q = refl
same_numbers test f rise (x ∷ xs) (y ∷ ys) p q =
    both_same _ _ _ _
    (same_number test f rise x y (All-head (λ n. test n ≡ true) x xs p) (All-head (λ n. test n ≡ true) y ys q))
    (same_numbers test f rise xs ys (All-tail (λ n. test n ≡ true) x xs p) (All-tail (λ n. test n ≡ true) y ys q))
