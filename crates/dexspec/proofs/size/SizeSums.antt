-- Lengths of combined lists, sums over lists that are made of others, and the end of a section.
use Rattle.dexspec.proofs.Common.{◌≡◌, ℕ, zero, suc, ◌+◌, ◌-◌, ◌*◌, ◌%◌, ◌<◌, ◌≤◌, List, [], ◌∷◌, map, length, take, drop, Option, Some, None, refl, ap, subst, arith, sum_by, flat_map, length-append, length-take, concat, sum_by-cons, sum_by-append, mod_below}
use Rattle.dexspec.specs.{chunks, zip_with, present, round_up, end_from, bytes_from}
use Rattle.dexspec.proofs.layout.Places.{length-bytes_from}

-- ---- sums over lists that are made of others

module _ {X Y : Type 0} where
  pub sum_by-map : (f : Y → ℕ) (g : X → Y) (xs : List X) → sum_by f (map g xs) ≡ sum_by (λ x. f (g x)) xs
  sum_by-map f g [] = refl
  sum_by-map f g (x ∷ xs) = omega (arith, sum_by-cons f (g x) (map g xs), sum_by-cons (λ y. f (g y)) x xs, sum_by-map f g xs)

  pub map-length : (g : X → Y) (xs : List X) → length (map g xs) ≡ length xs
  map-length g [] = refl
  map-length g (x ∷ xs) = ap suc (map-length g xs)

  pub sum_by-flat_map : (f : Y → ℕ) (g : X → List Y) (xs : List X) → sum_by f (flat_map g xs) ≡ sum_by (λ x. sum_by f (g x)) xs
  sum_by-flat_map f g [] = refl
  sum_by-flat_map f g (x ∷ xs) = omega (arith, sum_by-append f (g x) (flat_map g xs), sum_by-cons (λ y. sum_by f (g y)) x xs, sum_by-flat_map f g xs)

  -- a combination of two lists counts at most as much as the first
  pub sum_by-zip_with : {Z : Type 0} (f : Z → ℕ) (h : X → ℕ) (g : X → Y → Z) (xs : List X) (ys : List Y) → ((x : X) (y : Y) → f (g x y) ≤ h x) → sum_by f (zip_with g xs ys) ≤ sum_by h xs
  sum_by-zip_with f h g (x ∷ xs) (y ∷ ys) le = omega (arith, sum_by-cons f (g x y) (zip_with g xs ys), sum_by-cons h x xs, le x y, sum_by-zip_with f h g xs ys le)
  sum_by-zip_with f h g _ _ le = omega arith

module _ {X : Type 0} where
  -- a present value counts, and nothing else
  abbrev pub or_zero : (X → ℕ) → Option X → ℕ
  or_zero f None = 0
  or_zero f (Some x) = f x

  pub sum_by-present : (f : X → ℕ) (os : List (Option X)) → sum_by f (present os) ≡ sum_by (or_zero f) os
  sum_by-present f [] = refl
  sum_by-present f (None ∷ os) = omega (arith, sum_by-cons (or_zero f) None os, sum_by-present f os)
  sum_by-present f (Some x ∷ os) = omega (arith, sum_by-cons (or_zero f) (Some x) os, sum_by-cons f x (present os), sum_by-present f os)

  -- if no term is more than k
  pub sum_by-at_most : (f : X → ℕ) (k : ℕ) (xs : List X) → ((x : X) → f x ≤ k) → sum_by f xs ≤ length xs * k
  sum_by-at_most f k [] le = omega arith
  sum_by-at_most f k (x ∷ xs) le = omega (arith, sum_by-cons f x xs, le x, sum_by-at_most f k xs le)

  -- a part counts at most as much as its length allows
  pub sum_by-chunks : (f : List X → ℕ) (h : ℕ → ℕ) (ns : List ℕ) (xs : List X) → ((n : ℕ) (ys : List X) → length ys ≤ n → f ys ≤ h n) → sum_by f (chunks ns xs) ≤ sum_by h ns
  sum_by-chunks f h [] xs le = omega arith
  sum_by-chunks f h (n ∷ ns) xs le =
      let short = length-take n xs in
      let one = le n (take n xs) (omega (arith, short)) in
      omega (arith, sum_by-cons f (take n xs) (chunks ns (drop n xs)), sum_by-cons h n ns, one, sum_by-chunks f h ns (drop n xs) le)

pub length-concat : (xss : List (List ℕ)) → length (concat xss) ≡ sum_by (λ xs. length xs) xss
length-concat [] = refl
length-concat (xs ∷ xss) = omega (arith, length-append xs (concat xss), sum_by-cons (λ (ys : List ℕ). length ys) xs xss, length-concat xss)

-- ---- the end of a section

pub padding-at_most : (k at : ℕ) → (suc k - at % suc k) % suc k ≤ k
padding-at_most k at = omega (arith, mod_below (suc k - at % suc k) (suc k) (omega arith))

-- each item adds at most its length and the bytes of its alignment
pub end_from-at_most : (k from : ℕ) (xs : List (List ℕ)) → end_from (suc k) from xs ≤ from + sum_by (λ x. length x + k) xs
end_from-at_most k from [] = omega arith
end_from-at_most k from (x ∷ xs) =
    omega (arith, sum_by-cons (λ (y : List ℕ). length y + k) x xs, padding-at_most k from, end_from-at_most k (round_up (suc k) from + length x) xs)

-- the same for any alignment
pub end-at_most : (align from : ℕ) (xs : List (List ℕ)) → 0 < align → end_from align from xs ≤ from + sum_by (λ x. length x + (align - 1)) xs
end-at_most zero from xs h = absurd (omega arith)
end-at_most (suc k) from xs h = subst (λ n. end_from (suc k) from xs ≤ from + sum_by (λ x. length x + n) xs) (let e : k ≡ suc k - 1 = omega arith in e) (end_from-at_most k from xs)

pub bytes_from-at_most : (k from : ℕ) (xs : List (List ℕ)) → length (bytes_from (suc k) from xs) ≤ sum_by (λ x. length x + k) xs
bytes_from-at_most k from xs = omega (arith, length-bytes_from (suc k) from xs, end_from-at_most k from xs)
