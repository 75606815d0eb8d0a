-- The distinct members of a list: with one more member at the end, their sources, and their images.
use Rattle.dexspec.proofs.Common.{◌≡◌, ◌≢◌, zero, suc, Bool, true, false, cond, not, ◌||◌, if◌then◌else◌, List, [], ◌∷◌, ◌++◌, get_or, map, refl, ap, sym, ◌∙◌, subst, arith, append_assoc, inl, inr, Contains, filter, list_any, append-nil, map-append, filter-append, Contains-get_or}
use Rattle.std.proofs.lemmas.Map.Views.{any-filter_same}
use Rattle.dexspec.specs.{AreDistinct, distinct}
use Rattle.dexspec.proofs.lists.Equality.{IsEquality, turned}
use Rattle.dexspec.proofs.lists.Members.{Contains-first, Contains-later, Contains-cons_cases, Contains-filter, Contains-filter_source}
use Rattle.dexspec.proofs.lists.Sources.{distinct_source}
use Rattle.dexspec.proofs.lists.Mapped.{filter-map}

-- ---- one member more

-- The members with one more after them, unless one of them is equal: the result of inserting a key into a set that
-- keeps its order.
abbrev pub with_last : {X : Type 0} → (X → X → Bool) → List X → X → List X
with_last same ks x = if list_any (same x) ks then ks else ks ++ x ∷ []

-- a list only grows at its end
grows_by : {X : Type 0} (b : Bool) (ks : List X) (x : X) → (more : List X) × ((if b then ks else ks ++ x ∷ []) ≡ ks ++ more)
grows_by true ks x = ([], sym (append-nil ks))
grows_by false ks x = (x ∷ [], refl)

pub insert_grows : {X : Type 0} (same : X → X → Bool) (ks : List X) (x : X) → (more : List X) × (with_last same ks x ≡ ks ++ more)
insert_grows same ks x = grows_by (list_any (same x) ks) ks x

-- the members of keys after one is inserted, whether it was there or not
pub inserted : {K X : Type 0} (f : K → X) (test : K → Bool) (ks : List K) (k : K) (b : Bool) → list_any test ks ≡ b → map f (if list_any test ks then ks else ks ++ k ∷ []) ≡ (if b then map f ks else map f ks ++ f k ∷ [])
inserted f test ks k true e = ap (λ b. map f (if b then ks else ks ++ k ∷ [])) e
inserted f test ks k false e = ap (λ b. map f (if b then ks else ks ++ k ∷ [])) e ∙ map-append f ks (k ∷ [])

module _ {X : Type 0} (same : X → X → Bool) (exact : IsEquality same) where
  skipped : (p : X → Bool) (b : Bool) (ks : List X) (x : X) → p x ≡ false → filter p (if b then ks else ks ++ x ∷ []) ≡ filter p ks
  skipped p true ks x h = refl
  skipped p false ks x h = filter-append p ks (x ∷ []) ∙ ap (λ b. filter p ks ++ cond b (x ∷ []) []) h ∙ append-nil (filter p ks)

  kept : (p : X → Bool) (b : Bool) (ks : List X) (x : X) → p x ≡ true → filter p (if b then ks else ks ++ x ∷ []) ≡ (if b then filter p ks else filter p ks ++ x ∷ [])
  kept p true ks x h = refl
  kept p false ks x h = filter-append p ks (x ∷ []) ∙ ap (λ b. filter p ks ++ cond b (x ∷ []) []) h

  first_of : (b : Bool) (y : X) (ks : List X) (x : X) → y ∷ (if b then ks else ks ++ x ∷ []) ≡ (if b then y ∷ ks else y ∷ (ks ++ x ∷ []))
  first_of true y ks x = refl
  first_of false y ks x = refl

  -- a member equal to x is different from y, if x is
  apart : (x y : X) → same x y ≡ false → (k : X) → same x k ≡ true → not (same y k) ≡ true
  apart x y h k e = by (same y k) refl
    where
      by : (b : Bool) → same y k ≡ b → not b ≡ true
      by false g = refl
      by true g = let yes : same x y ≡ true = (exact x y).1 ((exact x k).0 e ∙ sym ((exact y k).0 g)) in let both : true ≡ false = sym yes ∙ h in cc

  added_by : (b : Bool) (y : X) (ds : List X) (x : X) → same x y ≡ b → y ∷ filter (λ z. not (same y z)) (with_last same ds x) ≡ (if (b || list_any (same x) (filter (λ z. not (same y z)) ds)) then y ∷ filter (λ z. not (same y z)) ds else y ∷ (filter (λ z. not (same y z)) ds ++ x ∷ []))
  added_by true y ds x h = ap (λ ks. y ∷ ks) (skipped (λ z. not (same y z)) (list_any (same x) ds) ds x (ap not (turned same exact y x ∙ h)))
  added_by false y ds x h =
      let p : X → Bool = λ z. not (same y z) in
      let any : list_any (same x) (filter p ds) ≡ list_any (same x) ds = any-filter_same (same x) p true (apart x y h) ds in
      ap (λ ks. y ∷ ks) (kept p (list_any (same x) ds) ds x (ap not (turned same exact y x ∙ h))) ∙ first_of (list_any (same x) ds) y (filter p ds) x
      ∙ ap (λ b. if b then y ∷ filter p ds else y ∷ (filter p ds ++ x ∷ [])) (sym any)

  -- the distinct members of a list with one more at its end
  pub distinct_more : (xs : List X) (x : X) → distinct same (xs ++ x ∷ []) ≡ with_last same (distinct same xs) x
  distinct_more [] x = refl
  distinct_more (y ∷ ys) x = ap (λ ds. y ∷ filter (λ z. not (same y z)) ds) (distinct_more ys x) ∙ added_by (same x y) y (distinct same ys) x refl

  -- the distinct members of a longer list are those of its prefix, and more
  pub distinct_prefix : (xs ys : List X) → (more : List X) × (distinct same (xs ++ ys) ≡ distinct same xs ++ more)
  distinct_prefix xs [] = ([], ap (distinct same) (append-nil xs) ∙ sym (append-nil (distinct same xs)))
  distinct_prefix xs (y ∷ ys) =
      let one = insert_grows same (distinct same xs) y in
      let rest = distinct_prefix (xs ++ y ∷ []) ys in
      (one.0 ++ rest.0, ap (distinct same) (sym (append_assoc xs (y ∷ []) ys)) ∙ rest.1 ∙ ap (λ ds. ds ++ rest.0) (distinct_more xs y ∙ one.1) ∙ append_assoc (distinct same xs) one.0 rest.0)

-- ---- each once

-- each member is among the distinct members
pub distinct_has : {X : Type 0} (same : X → X → Bool) → ((x y : X) → same x y ≡ true → x ≡ y) → (xs : List X) (x : X) → Contains xs x → Contains (distinct same xs) x
distinct_has same one [] x c = c
distinct_has same one (z ∷ xs) x c = elim (Contains-cons_cases z x xs c) [
  | inl e ↦ (0, omega arith, e)
  | inr l ↦ by (same z x) refl (distinct_has same one xs x l)
]
  where
    by : (t : Bool) → same z x ≡ t → Contains (distinct same xs) x → Contains (distinct same (z ∷ xs)) x
    by true e k = (0, omega arith, one z x e)
    by false e k = Contains-later z x (filter (λ y. not (same z y)) (distinct same xs)) (Contains-filter (λ y. not (same z y)) (distinct same xs) x k (ap not e))

-- a list without repeats, after a member that it does not have
distinct_cons : {X : Type 0} (x : X) (xs : List X) → ((z : X) → Contains xs z → x ≢ z) → AreDistinct xs → AreDistinct (x ∷ xs)
distinct_cons x xs other rest i zero d lt le = absurd (omega (arith, lt))
distinct_cons x xs other rest zero (suc j) d lt le = other (get_or xs j d) (Contains-get_or xs j d (omega (arith, le)))
distinct_cons x xs other rest (suc i) (suc j) d lt le = rest i j d (omega (arith, lt)) (omega (arith, le))

-- a filtered list without repeats has no repeats
filter_distinct : {X : Type 0} (p : X → Bool) (xs : List X) → AreDistinct xs → AreDistinct (filter p xs)
filter_distinct p [] d = d
filter_distinct p (x ∷ xs) d = by (p x) (filter_distinct p xs (λ i j z lt le. d (suc i) (suc j) z (omega (arith, lt)) (omega (arith, le))))
  where
    by : (b : Bool) → AreDistinct (filter p xs) → AreDistinct (cond b (x ∷ filter p xs) (filter p xs))
    by true rest = distinct_cons x (filter p xs) (λ z c e. let was = Contains-filter_source p xs z c in d 0 (suc was.0.0) z (omega arith) (omega (arith, was.0.1)) (e ∙ sym was.0.2)) rest
    by false rest = rest

-- no two are equal, if the test passes for equal values
pub distinct_once : {X : Type 0} (same : X → X → Bool) → ((x : X) → same x x ≡ true) → (xs : List X) → AreDistinct (distinct same xs)
distinct_once {X = X} same again [] = λ i j d lt le. absurd (omega (arith, le))
distinct_once {X = X} same again (x ∷ xs) =
    let p : X → Bool = λ y. not (same x y) in
    distinct_cons x (filter p (distinct same xs)) (λ z c e. denied (same x z) (Contains-filter_source p (distinct same xs) z c).1 (subst (λ y. same x y ≡ true) e (again x)))
    (filter_distinct p (distinct same xs) (distinct_once same again xs))
  where
    denied : (b : Bool) → not b ≡ true → b ≡ true → ⊥
    denied true e f = absurd cc
    denied false e f = absurd cc

-- ---- members under an injective map

-- a filter by a test that agrees on the members
filter_agrees : {X : Type 0} (p q : X → Bool) (xs : List X) → ((x : X) → Contains xs x → p x ≡ q x) → filter p xs ≡ filter q xs
filter_agrees p q [] e = refl
filter_agrees p q (x ∷ xs) e =
    ap (λ b. cond b (x ∷ filter p xs) (filter p xs)) (e x (Contains-first x xs))
    ∙ ap (λ ys. cond (q x) (x ∷ ys) ys) (filter_agrees p q xs (λ y c. e y (Contains-later x y xs c)))

-- the distinct members of a mapped list are the images of the distinct members
pub distinct_mapped : {X Y : Type 0} (f : X → Y) (same : X → X → Bool) (equivalent : Y → Y → Bool) (xs : List X) → ((x y : X) → Contains xs x → Contains xs y → equivalent (f x) (f y) ≡ same x y) → distinct equivalent (map f xs) ≡ map f (distinct same xs)
distinct_mapped f same equivalent [] e = refl
distinct_mapped f same equivalent (x ∷ xs) e =
    let ds = distinct same xs in
    ap (λ zs. f x ∷ filter (λ z. not (equivalent (f x) z)) zs) (distinct_mapped f same equivalent xs (λ y z cy cz. e y z (Contains-later x y xs cy) (Contains-later x z xs cz)))
    ∙ ap (λ zs. f x ∷ zs) (filter-map f (λ z. not (equivalent (f x) z)) ds)
    ∙ ap (λ zs. f x ∷ map f zs) (filter_agrees (λ z. not (equivalent (f x) (f z))) (λ z. not (same x z)) ds (λ z c. ap not (e x z (Contains-first x xs) (Contains-later x z xs (distinct_source same xs z c)))))
