-- The members of lists made from others, and sums over lists without repeats.
use Rattle.dexspec.proofs.Common.{◌≡◌, ◌≢◌, ◌⊎◌, ℕ, zero, suc, ◌+◌, ◌<◌, ◌≤◌, Bool, true, false, cond, ◌&&◌, ◌||◌, List, [], ◌∷◌, length, get_or, refl, sym, ap, ◌∙◌, subst, arith, inl, inr, sum_by, Contains, flat_map, filter, list_all, list_any, Contains-append_left, Contains-append_right, Contains-append_cases, list_any_at, sum_by-cons}
use Rattle.dexspec.specs.{AreDistinct}

pub and_first : (a b : Bool) → (a && b) ≡ true → a ≡ true
and_first true b e = refl
and_first false b e = e

pub and_second : (a b : Bool) → (a && b) ≡ true → b ≡ true
and_second true b e = e
and_second false b e = absurd cc

pub and_both : (a b : Bool) → a ≡ true → b ≡ true → (a && b) ≡ true
and_both true b e f = f
and_both false b e f = e

-- each member of the first list is a member of the second
abbrev pub AreAmong : {X : Type 0} → List X → List X → Type 0
AreAmong {X} xs ys = (x : X) → Contains xs x → Contains ys x

module _ {X : Type 0} where
  pub Contains-nil : (x : X) → Contains [] x → ⊥
  Contains-nil x c = omega (arith, c.1)

  pub Contains-first : (x : X) (xs : List X) → Contains (x ∷ xs) x
  Contains-first x xs = (0, omega arith, refl)

  pub Contains-later : (y x : X) (xs : List X) → Contains xs x → Contains (y ∷ xs) x
  Contains-later y x xs c = (suc c.0, omega (arith, c.1), c.2)

  -- a member is the first or a member of the rest
  pub Contains-cons_cases : (y x : X) (xs : List X) → Contains (y ∷ xs) x → (y ≡ x) ⊎ Contains xs x
  Contains-cons_cases y x xs (zero, lt, e) = inl e
  Contains-cons_cases y x xs (suc k, lt, e) = inr (k, omega arith, e)

-- ---- flat_map

module _ {X : Type 0} where
  pub Contains-flat_map : {Y : Type 0} (f : X → List Y) (xs : List X) (x : X) (y : Y) → Contains xs x → Contains (f x) y → Contains (flat_map f xs) y
  Contains-flat_map f [] x y c d = absurd (Contains-nil x c)
  Contains-flat_map f (z ∷ xs) x y c d = elim (Contains-cons_cases z x xs c) [
    | inl e ↦ Contains-append_left (f z) (flat_map f xs) y (subst (λ w. Contains (f w) y) (sym e) d)
    | inr l ↦ Contains-append_right (f z) (flat_map f xs) y (Contains-flat_map f xs x y l d)
  ]

  -- a member of a concatenation comes from some member
  pub Contains-flat_map_source : {Y : Type 0} (f : X → List Y) (xs : List X) (y : Y) → Contains (flat_map f xs) y → (x : X) × Contains xs x × Contains (f x) y
  Contains-flat_map_source f [] y c = absurd (Contains-nil y c)
  Contains-flat_map_source f (z ∷ xs) y c = elim (Contains-append_cases (f z) (flat_map f xs) y c) [
    | inl here ↦ (z, Contains-first z xs, here)
    | inr l ↦ let s = Contains-flat_map_source f xs y l in (s.0, Contains-later z s.0 xs s.1, s.2)
  ]

  pub AreAmong-flat_map : {Y : Type 0} (f : X → List Y) (xs ys : List X) → AreAmong xs ys → AreAmong (flat_map f xs) (flat_map f ys)
  AreAmong-flat_map f xs ys h y c = let s = Contains-flat_map_source f xs y c in Contains-flat_map f ys s.0 y (h s.0 s.1) s.2

  -- ---- filter, list_all and list_any

  pub Contains-filter : (p : X → Bool) (xs : List X) (x : X) → Contains xs x → p x ≡ true → Contains (filter p xs) x
  Contains-filter p [] x c e = c
  Contains-filter p (z ∷ xs) x c e = elim (p z) as (λ b. p z ≡ b → Contains (cond b (z ∷ filter p xs) (filter p xs)) x) [
    | true ↦ λ t. elim (Contains-cons_cases z x xs c) [ inl s ↦ (0, omega arith, s) | inr l ↦ Contains-later z x (filter p xs) (Contains-filter p xs x l e) ]
    | false ↦ λ t. elim (Contains-cons_cases z x xs c) [ inl s ↦ absurd (let k : p z ≡ true = ap p s ∙ e in cc) | inr l ↦ Contains-filter p xs x l e ]
  ] refl

  -- a filtered member was a member, and passes
  pub Contains-filter_source : (p : X → Bool) (xs : List X) (x : X) → Contains (filter p xs) x → Contains xs x × (p x ≡ true)
  Contains-filter_source p [] x c = absurd (Contains-nil x c)
  Contains-filter_source p (z ∷ xs) x c = by (p z) refl c (Contains-filter_source p xs x)
    where
      by : (b : Bool) → p z ≡ b → Contains (cond b (z ∷ filter p xs) (filter p xs)) x → (Contains (filter p xs) x → Contains xs x × (p x ≡ true)) → Contains (z ∷ xs) x × (p x ≡ true)
      by true t c again = elim (Contains-cons_cases z x (filter p xs) c) [
        | inl s ↦ ((0, omega arith, s), ap p (sym s) ∙ t)
        | inr l ↦ let r = again l in (Contains-later z x xs r.0, r.1)
      ]
      by false t c again = let r = again c in (Contains-later z x xs r.0, r.1)

  -- a weaker test keeps more members of a longer list
  pub AreAmong-filter : (p q : X → Bool) (xs ys : List X) → ((x : X) → p x ≡ true → q x ≡ true) → AreAmong xs ys → AreAmong (filter p xs) (filter q ys)
  AreAmong-filter p q xs ys w h x c = let s = Contains-filter_source p xs x c in Contains-filter q ys x (h x s.0) (w x s.1)

  pub list_all-member : (p : X → Bool) (xs : List X) (x : X) → list_all p xs ≡ true → Contains xs x → p x ≡ true
  list_all-member p [] x e c = absurd (Contains-nil x c)
  list_all-member p (z ∷ xs) x e c = elim (Contains-cons_cases z x xs c) [
    | inl s ↦ ap p (sym s) ∙ and_first (p z) (list_all p xs) e
    | inr l ↦ list_all-member p xs x (and_second (p z) (list_all p xs) e) l
  ]

  pub list_all-from_members : (p : X → Bool) (xs : List X) → ((x : X) → Contains xs x → p x ≡ true) → list_all p xs ≡ true
  list_all-from_members p [] h = refl
  list_all-from_members p (z ∷ xs) h = and_both (p z) (list_all p xs) (h z (Contains-first z xs)) (list_all-from_members p xs (λ x l. h x (Contains-later z x xs l)))

  pub list_any-member : (p : X → Bool) (xs : List X) (x : X) → Contains xs x → p x ≡ true → list_any p xs ≡ true
  list_any-member p xs x c e = list_any_at p xs c.0 x c.1 (ap p c.2 ∙ e)

  -- some member passes
  pub list_any-source : (p : X → Bool) (xs : List X) → list_any p xs ≡ true → (x : X) × Contains xs x × (p x ≡ true)
  list_any-source p [] e = absurd cc
  list_any-source p (z ∷ xs) e = by (p z) refl e (list_any-source p xs)
    where
      by : (b : Bool) → p z ≡ b → (b || list_any p xs) ≡ true → (list_any p xs ≡ true → (x : X) × Contains xs x × (p x ≡ true)) → (x : X) × Contains (z ∷ xs) x × (p x ≡ true)
      by true t e again = (z, Contains-first z xs, t)
      by false t e again = let r = again e in (r.0, Contains-later z r.0 xs r.1, r.2)

  -- ---- sums

  -- the list without one x, and the sum without it
  record Without (f : X → ℕ) (ys : List X) (x : X) : Type 0 where
    rest : List X
    sum : sum_by f ys ≡ f x + sum_by f rest
    others : (z : X) → Contains ys z → z ≢ x → Contains rest z

  without : (f : X → ℕ) (ys : List X) (x : X) (k : ℕ) → k < length ys → get_or ys k x ≡ x → Without f ys x
  without f [] x k lt e = absurd (omega arith)
  without f (y ∷ ys) x zero lt e = record {
    rest = ys;
    sum = sum_by-cons f y ys ∙ ap (λ w. f w + sum_by f ys) e;
    others = λ z c n. elim (Contains-cons_cases y z ys c) [ inl s ↦ absurd (n (sym s ∙ e)) | inr l ↦ l ];
  }
  without f (y ∷ ys) x (suc k) lt e =
      let t = without f ys x k (omega arith) e in record {
        rest = y ∷ t.rest;
        sum = omega (arith, sum_by-cons f y ys, sum_by-cons f y t.rest, t.sum);
        others = λ z c n. elim (Contains-cons_cases y z ys c) [ inl s ↦ (0, omega arith, s) | inr l ↦ Contains-later y z t.rest (t.others z l n) ];
      }

  pub AreDistinct-first : (x : X) (xs : List X) → AreDistinct (x ∷ xs) → (z : X) → Contains xs z → z ≢ x
  AreDistinct-first x xs d z c e = d 0 (suc c.0) z (omega arith) (omega (arith, c.1)) (sym e ∙ sym c.2)

  pub AreDistinct-rest : (x : X) (xs : List X) → AreDistinct (x ∷ xs) → AreDistinct xs
  AreDistinct-rest x xs d i j z lt le = d (suc i) (suc j) z (omega arith) (omega arith)

  -- a sum over some distinct members is at most the sum over the list
  pub sum_by-among : (f : X → ℕ) (xs ys : List X) → AreDistinct xs → AreAmong xs ys → sum_by f xs ≤ sum_by f ys
  sum_by-among f [] ys d h = omega arith
  sum_by-among f (x ∷ xs) ys d h =
      let c = h x (Contains-first x xs) in
      let t = without f ys x c.0 c.1 c.2 in
      let le = sum_by-among f xs t.rest (AreDistinct-rest x xs d) (λ z m. t.others z (h z (Contains-later x z xs m)) (AreDistinct-first x xs d z m)) in
      omega (arith, sum_by-cons f x xs, t.sum, le)

  sum_by-one : (xs : List X) → sum_by (λ x. 1) xs ≡ length xs
  sum_by-one [] = refl
  sum_by-one (x ∷ xs) = omega (arith, sum_by-cons (λ (y : X). 1) x xs, sum_by-one xs)

  -- a list without repeats is at most as long as a list that has its members
  pub length-among : (xs ys : List X) → AreDistinct xs → AreAmong xs ys → length xs ≤ length ys
  length-among xs ys d h = omega (arith, sum_by-among (λ x. 1) xs ys d h, sum_by-one xs, sum_by-one ys)
