-- Lists whose members are all mapped by one function.
use Rattle.dexspec.proofs.Common.{◌≡◌, ℕ, ◌≤◌, Bool, true, false, cond, ◌&&◌, ◌||◌, List, [], ◌∷◌, ◌++◌, map, refl, sym, ap, ◌∙◌, subst, arith, inl, inr, sum_by, Contains, flat_map, filter, list_all, list_any, All, get_or-map, length-map, map-append, Contains-append_left, Contains-append_right, Contains-append_cases, All-contains_itself, All-weaker, sum_by-cons}
use Rattle.dexspec.specs.{AreDistinct}
use Rattle.dexspec.proofs.merge.Depths.{Contains-map}
use Rattle.dexspec.proofs.lists.Members.{AreAmong, Contains-nil, Contains-first, Contains-later, Contains-cons_cases}

-- ---- members among others

module _ {X : Type 0} where
  -- a list's members are among its members
  pub AreAmong-refl : (xs : List X) → AreAmong xs xs
  AreAmong-refl xs x c = c

  -- no members are among any
  pub AreAmong-none : (xs : List X) → AreAmong [] xs
  AreAmong-none xs x c = absurd (Contains-nil x c)

  -- with one more at the start of both
  pub AreAmong-cons : (x : X) (xs ys : List X) → AreAmong xs ys → AreAmong (x ∷ xs) (x ∷ ys)
  AreAmong-cons x xs ys h z c = elim (Contains-cons_cases x z xs c) [
    | inl e ↦ (0, omega arith, e)
    | inr l ↦ Contains-later x z ys (h z l)
  ]

  -- two lists joined
  pub AreAmong-append : (xs ys zs ws : List X) → AreAmong xs zs → AreAmong ys ws → AreAmong (xs ++ ys) (zs ++ ws)
  AreAmong-append xs ys zs ws f g z c = elim (Contains-append_cases xs ys z c) [
    | inl l ↦ Contains-append_left zs ws z (f z l)
    | inr r ↦ Contains-append_right zs ws z (g z r)
  ]

  -- a property of all members holds for all among them
  pub All-among : (P : X → Type 0) (xs ys : List X) → AreAmong xs ys → All P ys → All P xs
  All-among P xs ys h a = All-weaker (Contains xs) P (λ x c. let k = h x c in subst P k.2 (a k.0 x k.1)) xs (All-contains_itself xs)

-- ---- members of a mapped list

module _ {X Y : Type 0} (f : X → Y) where
  -- a member of a mapped list is the image of a member
  pub Contains-map_source : (xs : List X) (y : Y) → Contains (map f xs) y → (x : X) × Contains xs x × (f x ≡ y)
  Contains-map_source [] y c = absurd (Contains-nil y c)
  Contains-map_source (x ∷ xs) y c = elim (Contains-cons_cases (f x) y (map f xs) c) [
    | inl e ↦ (x, Contains-first x xs, e)
    | inr l ↦ let s = Contains-map_source xs y l in (s.0, Contains-later x s.0 xs s.1, s.2)
  ]

  -- images of members of the first list are among the images of members of the second
  pub AreAmong-map : (xs ys : List X) → AreAmong xs ys → AreAmong (map f xs) (map f ys)
  AreAmong-map xs ys h y c = let s = Contains-map_source xs y c in subst (Contains (map f ys)) s.2 (Contains-map f ys s.0 (h s.0 s.1))

  -- elements among a mapped list are images of members
  pub originals : (xs : List X) (ys : List Y) → AreAmong ys (map f xs) → (zs : List X) × AreAmong zs xs × (map f zs ≡ ys)
  originals xs [] h = ([], AreAmong-none xs, refl)
  originals xs (y ∷ ys) h =
      let s = Contains-map_source xs y (h y (Contains-first y ys)) in
      let r = originals xs ys (λ z c. h z (Contains-later y z ys c)) in
      (s.0 ∷ r.0, λ z c. elim (Contains-cons_cases s.0 z r.0 c) [ inl e ↦ subst (Contains xs) e s.1 | inr l ↦ r.1 z l ], λ i. s.2 i ∷ r.2 i)

  -- values with different images are different
  pub AreDistinct-map_source : (xs : List X) → AreDistinct (map f xs) → AreDistinct xs
  AreDistinct-map_source xs h i j d lt le e =
      h i j (f d) lt (omega (arith, length-map xs f, le)) (get_or-map f xs i d (f d) (omega arith) ∙ ap f e ∙ sym (get_or-map f xs j d (f d) le))

  -- a mapped list has a member that passes exactly if the list has a member whose image passes
  pub list_any-map : (p : Y → Bool) (xs : List X) → list_any p (map f xs) ≡ list_any (λ x. p (f x)) xs
  list_any-map p [] = refl
  list_any-map p (x ∷ xs) = ap (λ b. p (f x) || b) (list_any-map p xs)

  -- filtering after mapping is mapping after filtering
  pub filter-map : (p : Y → Bool) (xs : List X) → filter p (map f xs) ≡ map f (filter (λ x. p (f x)) xs)
  filter-map p [] = refl
  filter-map p (x ∷ xs) = elim (p (f x)) as (λ b. cond b (f x ∷ filter p (map f xs)) (filter p (map f xs)) ≡ map f (cond b (x ∷ filter (λ z. p (f z)) xs) (filter (λ z. p (f z)) xs))) [
    | true ↦ ap (λ l. f x ∷ l) (filter-map p xs)
    | false ↦ filter-map p xs
  ]

-- ---- a list that is mapped to its own type

module _ {X : Type 0} (f : X → X) where
  -- if mapping twice is mapping once
  pub map-twice : ((x : X) → f (f x) ≡ f x) → (xs : List X) → map f (map f xs) ≡ map f xs
  map-twice h [] = refl
  map-twice h (x ∷ xs) = λ i. h x i ∷ map-twice h xs i

  -- a function with equal values before and after mapping makes equal lists
  pub map-kept : {Y : Type 0} (g : X → Y) → ((x : X) → g (f x) ≡ g x) → (xs : List X) → map g (map f xs) ≡ map g xs
  map-kept g h [] = refl
  map-kept g h (x ∷ xs) = λ i. h x i ∷ map-kept g h xs i

  -- if each member's values after mapping are among those before
  pub AreAmong-flat_map_map : {Y : Type 0} (g : X → List Y) → ((x : X) → AreAmong (g (f x)) (g x)) → (xs : List X) → AreAmong (flat_map g (map f xs)) (flat_map g xs)
  AreAmong-flat_map_map g h [] = AreAmong-refl []
  AreAmong-flat_map_map g h (x ∷ xs) = AreAmong-append (g (f x)) (flat_map g (map f xs)) (g x) (flat_map g xs) (h x) (AreAmong-flat_map_map g h xs)

  -- if no member counts more after mapping, the sum is no greater
  pub sum_by-map_within : (g : X → ℕ) → ((x : X) → g (f x) ≤ g x) → (xs : List X) → sum_by g (map f xs) ≤ sum_by g xs
  sum_by-map_within g h [] = omega arith
  sum_by-map_within g h (x ∷ xs) = omega (arith, sum_by-cons g (f x) (map f xs), sum_by-cons g x xs, h x, sum_by-map_within g h xs)

-- tests that agree at each member agree on the list
pub list_all-agree : {X : Type 0} (p q : X → Bool) → ((x : X) → p x ≡ q x) → (xs : List X) → list_all p xs ≡ list_all q xs
list_all-agree p q h [] = refl
list_all-agree p q h (x ∷ xs) = λ i. h x i && list_all-agree p q h xs i

-- mapping a concatenation, member by member
pub map-flat_map : {X Y Z : Type 0} (f : Y → Z) (g : X → List Y) (h : X → List Z) → ((x : X) → map f (g x) ≡ h x) → (xs : List X) → map f (flat_map g xs) ≡ flat_map h xs
map-flat_map f g h e [] = refl
map-flat_map f g h e (x ∷ xs) = map-append f (g x) (flat_map g xs) ∙ (λ i. e x i ++ map-flat_map f g h e xs i)
