-- What holds of each element, along the ways in which a list is made.
use Rattle.dexspec.proofs.Common.{suc, List, [], ◌∷◌, ◌++◌, map, All, AllByRecursion, flat_map, arith}

module _ {X : Type 0} (P : X → Type 0) where
  -- of each element, one by one
  pub each_from_all : (xs : List X) → All P xs → AllByRecursion P xs
  each_from_all [] all = tt
  each_from_all (x ∷ xs) all = (all 0 x (omega arith), each_from_all xs (λ k d lt. all (suc k) d (omega (arith, lt))))

  -- of the elements of both parts
  pub each_append : (xs ys : List X) → AllByRecursion P (xs ++ ys) → AllByRecursion P xs × AllByRecursion P ys
  each_append [] ys each = (tt, each)
  each_append (x ∷ xs) ys each = let p = each_append xs ys each.1 in ((each.0, p.0), p.1)

  -- of the elements of each part
  pub each_flat_map : {A : Type 0} (f : A → List X) (ys : List A) → AllByRecursion P (flat_map f ys) → AllByRecursion (λ a. AllByRecursion P (f a)) ys
  each_flat_map f [] each = tt
  each_flat_map f (a ∷ ys) each = let p = each_append (f a) (flat_map f ys) each in (p.0, each_flat_map f ys p.1)

  -- of what each element is mapped to
  pub each_map : {A : Type 0} (f : A → X) (ys : List A) → AllByRecursion P (map f ys) → AllByRecursion (λ a. P (f a)) ys
  each_map f [] each = tt
  each_map f (a ∷ ys) each = (each.0, each_map f ys each.1)

  -- and more of each
  pub each_both : (Q : X → Type 0) (xs : List X) → AllByRecursion P xs → AllByRecursion Q xs → AllByRecursion (λ x. P x × Q x) xs
  each_both Q [] p q = tt
  each_both Q (x ∷ xs) p q = ((p.0, q.0), each_both Q xs p.1 q.1)

  -- and so what follows from it
  pub each_so : {Q : X → Type 0} → ((x : X) → P x → Q x) → (xs : List X) → AllByRecursion P xs → AllByRecursion Q xs
  each_so so [] p = tt
  each_so so (x ∷ xs) p = (so x p.0, each_so so xs p.1)

  -- of the elements of two lists, and so of both together
  pub each_joined : (xs ys : List X) → AllByRecursion P xs → AllByRecursion P ys → AllByRecursion P (xs ++ ys)
  each_joined [] ys p q = q
  each_joined (x ∷ xs) ys p q = (p.0, each_joined xs ys p.1 q)
