-- Lists in order: the result of `in_order` rises, has the members of its argument, and depends on these alone.
use Rattle.dexspec.proofs.Common.{◌≡◌, ◌⊎◌, ℕ, zero, suc, ◌+◌, ◌<◌, ◌≤◌, Bool, true, false, cond, List, [], ◌∷◌, length, get_or, refl, sym, ap, ◌∙◌, subst, arith, inl, inr, Ordering, Less, Equal, Greater, Contains, is_lt, ordering_reverse, IsTotalOrder, tied_itself, get_or_default, Contains-get_or, sum_by-cons}
use Rattle.std.specs.FinMap.{IsAntisymmetric}
use Rattle.std.specs.FinMap.Entries.{by_order}
use Rattle.dexspec.specs.{rises, add_in_order, in_order, rank, AreDistinct}
use Rattle.dexspec.proofs.lists.Members.{and_first, and_second, and_both, AreAmong, Contains-nil, Contains-first, Contains-later, Contains-cons_cases, sum_by-among}

-- by cases: each member is less than all members after it
abbrev pub Rises : {K : Type 0} → (K → K → Ordering) → List K → Type 0
Rises R [] = Unit {0}
Rises {K} R (x ∷ xs) = ((y : K) → Contains xs y → R x y ≡ Less) × Rises R xs

pub less_is : (o : Ordering) → is_lt o ≡ true → o ≡ Less
less_is Less e = refl
less_is _ e = absurd cc

module _ {K : Type 0} (R : K → K → Ordering) where
  pub rises-from_Rises : (xs : List K) → Rises R xs → rises R xs ≡ true
  rises-from_Rises (x ∷ y ∷ ys) h = and_both (is_lt (R x y)) (rises R (y ∷ ys)) (ap is_lt (h.0 y (Contains-first y ys))) (rises-from_Rises (y ∷ ys) h.1)
  rises-from_Rises _ h = refl

  module _ (o : IsTotalOrder R) where
    greater : (x y : K) → R x y ≡ Greater → R y x ≡ Less
    greater x y e = o.antisymm y x ∙ ap ordering_reverse e

    pub irreflexive : (x y : K) → x ≡ y → R x y ≡ Less → ⊥
    irreflexive x y e l = let t : R x y ≡ Equal = ap (λ z. R x z) (sym e) ∙ tied_itself o x in cc

    pub asymmetric : (x y : K) → R x y ≡ Less → R y x ≡ Less → ⊥
    asymmetric x y l m = let t : R x y ≡ Greater = o.antisymm x y ∙ ap ordering_reverse m in cc

    pub Rises-from_rises : (xs : List K) → rises R xs ≡ true → Rises R xs
    Rises-from_rises [] h = tt
    Rises-from_rises (x ∷ []) h = (λ y c. absurd (Contains-nil y c), tt)
    Rises-from_rises (x ∷ y ∷ ys) h =
        let l = less_is (R x y) (and_first (is_lt (R x y)) (rises R (y ∷ ys)) h) in
        let r = Rises-from_rises (y ∷ ys) (and_second (is_lt (R x y)) (rises R (y ∷ ys)) h) in
        (λ z c. elim (Contains-cons_cases y z ys c) [ inl e ↦ subst (λ w. R x w ≡ Less) e l | inr m ↦ o.trans x y z l (r.0 z m) ], r)

    -- ---- a rising list by its places

    pub Rises-places : (xs : List K) (i j : ℕ) (d : K) → Rises R xs → i < j → j < length xs → R (get_or xs i d) (get_or xs j d) ≡ Less
    Rises-places (x ∷ xs) zero (suc j) d h ij lt = h.0 (get_or xs j d) (Contains-get_or xs j d (omega arith))
    Rises-places (x ∷ xs) (suc i) (suc j) d h ij lt = Rises-places xs i j d h.1 (omega arith) (omega arith)
    Rises-places _ i _ d h ij lt = absurd (omega arith)

    pub AreDistinct-from_Rises : (xs : List K) → Rises R xs → AreDistinct xs
    AreDistinct-from_Rises xs h i j d ij lt e = irreflexive (get_or xs i d) (get_or xs j d) e (Rises-places xs i j d h ij lt)

    -- ---- two rising lists

    heads : (x y : K) (xs ys : List K) → Rises R (x ∷ xs) → Rises R (y ∷ ys) → Contains (y ∷ ys) x → Contains (x ∷ xs) y → x ≡ y
    heads x y xs ys h k c d = elim (Contains-cons_cases y x ys c) [
      | inl e ↦ sym e
      | inr l ↦ elim (Contains-cons_cases x y xs d) [
        | inl e ↦ e
        | inr m ↦ absurd (asymmetric x y (h.0 y m) (k.0 x l))
      ]
    ]

    tails : (x y : K) (xs ys : List K) → Rises R (x ∷ xs) → x ≡ y → AreAmong (x ∷ xs) (y ∷ ys) → AreAmong xs ys
    tails x y xs ys h e f z c = elim (Contains-cons_cases y z ys (f z (Contains-later x z xs c))) [
      | inl s ↦ absurd (irreflexive x z (e ∙ s) (h.0 z c))
      | inr l ↦ l
    ]

    -- rising lists of the same members are equal
    pub Rises-same : (xs ys : List K) → Rises R xs → Rises R ys → AreAmong xs ys → AreAmong ys xs → xs ≡ ys
    Rises-same [] [] h k f g = refl
    Rises-same [] (y ∷ ys) h k f g = absurd (Contains-nil y (g y (Contains-first y ys)))
    Rises-same (x ∷ xs) [] h k f g = absurd (Contains-nil x (f x (Contains-first x xs)))
    Rises-same (x ∷ xs) (y ∷ ys) h k f g =
        let e = heads x y xs ys h k (f x (Contains-first x xs)) (g y (Contains-first y ys)) in
        let r = Rises-same xs ys h.1 k.1 (tails x y xs ys h e f) (tails y x ys xs k (sym e) g) in
        λ i. e i ∷ r i

    -- ---- ranks in a rising list

    pub rank-cons : (s x : K) (xs : List K) (b : Bool) → is_lt (R x s) ≡ b → rank R s (x ∷ xs) ≡ cond b 1 0 + rank R s xs
    rank-cons s x xs b e = sum_by-cons (λ t. cond (is_lt (R t s)) 1 0) x xs ∙ ap (λ c. cond c 1 0 + rank R s xs) e

    pub rank-above : (s : K) (xs : List K) → ((y : K) → Contains xs y → R s y ≡ Less) → rank R s xs ≡ 0
    rank-above s [] h = refl
    rank-above s (x ∷ xs) h =
        let no_less : is_lt (R x s) ≡ false = ap is_lt (o.antisymm x s ∙ ap ordering_reverse (h x (Contains-first x xs))) in
        omega (arith, rank-cons s x xs false no_less, rank-above s xs (λ y c. h y (Contains-later x y xs c)))

    -- the rank of a member at a place is the place
    pub rank-get_or : (xs : List K) (i : ℕ) (d : K) → Rises R xs → i < length xs → rank R (get_or xs i d) xs ≡ i
    rank-get_or [] i d h lt = absurd (omega arith)
    rank-get_or (x ∷ xs) zero d h lt = omega (arith, rank-cons x x xs false (ap is_lt (tied_itself o x)), rank-above x xs h.0)
    rank-get_or (x ∷ xs) (suc i) d h lt =
        let s = get_or xs i d in
        omega (arith, rank-cons s x xs true (ap is_lt (h.0 s (Contains-get_or xs i d (omega arith)))), rank-get_or xs i d h.1 (omega arith))

    -- a member is at the place that is its rank
    pub rank-place : (xs : List K) (s d : K) → Rises R xs → Contains xs s → (rank R s xs < length xs) × (get_or xs (rank R s xs) d ≡ s)
    rank-place xs s d h c =
        let e : rank R s xs ≡ c.0 = ap (λ t. rank R t xs) (sym c.2) ∙ rank-get_or xs c.0 s h c.1 in
        (omega (arith, e, c.1), ap (λ i. get_or xs i d) e ∙ get_or_default xs c.0 d s c.1 ∙ c.2)

    -- ---- growth of rising lists

    pub rank-among : (s : K) (xs ys : List K) → Rises R xs → AreAmong xs ys → rank R s xs ≤ rank R s ys
    rank-among s xs ys h f = sum_by-among (λ t. cond (is_lt (R t s)) 1 0) xs ys (AreDistinct-from_Rises xs h) f

    -- ---- in_order

    module _ (exact : IsAntisymmetric R) where
      add_in_order-first : (k : K) (xs : List K) → Contains (add_in_order R k xs) k
      add_in_order-first k [] = Contains-first k []
      add_in_order-first k (x ∷ xs) = elim (R k x) as (λ r. R k x ≡ r → Contains (by_order r (k ∷ x ∷ xs) (x ∷ xs) (x ∷ add_in_order R k xs)) k) [
        | Less ↦ λ p. Contains-first k (x ∷ xs)
        | Equal ↦ λ p. (0, omega arith, sym (exact k x p))
        | Greater ↦ λ p. Contains-later x k (add_in_order R k xs) (add_in_order-first k xs)
      ] refl

      add_in_order-later : (k : K) (xs : List K) (y : K) → Contains xs y → Contains (add_in_order R k xs) y
      add_in_order-later k [] y c = absurd (Contains-nil y c)
      add_in_order-later k (x ∷ xs) y c = elim (R k x) as (λ r. Contains (by_order r (k ∷ x ∷ xs) (x ∷ xs) (x ∷ add_in_order R k xs)) y) [
        | Less ↦ Contains-later k y (x ∷ xs) c
        | Equal ↦ c
        | Greater ↦ elim (Contains-cons_cases x y xs c) [ inl e ↦ (0, omega arith, e) | inr l ↦ Contains-later x y (add_in_order R k xs) (add_in_order-later k xs y l) ]
      ]

      add_in_order_cases : (k : K) (xs : List K) (y : K) → Contains (add_in_order R k xs) y → (k ≡ y) ⊎ Contains xs y
      add_in_order_cases k [] y c = Contains-cons_cases k y [] c
      add_in_order_cases k (x ∷ xs) y c = by (R k x) c (add_in_order_cases k xs y)
        where
          by : (r : Ordering) → Contains (by_order r (k ∷ x ∷ xs) (x ∷ xs) (x ∷ add_in_order R k xs)) y → (Contains (add_in_order R k xs) y → (k ≡ y) ⊎ Contains xs y) → (k ≡ y) ⊎ Contains (x ∷ xs) y
          by Less c again = Contains-cons_cases k y (x ∷ xs) c
          by Equal c again = inr c
          by Greater c again = elim (Contains-cons_cases x y (add_in_order R k xs) c) [
            | inl e ↦ inr (0, omega arith, e)
            | inr l ↦ elim (again l) [ inl e ↦ inl e | inr m ↦ inr (Contains-later x y xs m) ]
          ]

      Rises-add_in_order : (k : K) (xs : List K) → Rises R xs → Rises R (add_in_order R k xs)
      Rises-add_in_order k [] h = (λ y c. absurd (Contains-nil y c), tt)
      Rises-add_in_order k (x ∷ xs) h = elim (R k x) as (λ r. R k x ≡ r → Rises R (by_order r (k ∷ x ∷ xs) (x ∷ xs) (x ∷ add_in_order R k xs))) [
        | Less ↦ λ p. (λ y c. elim (Contains-cons_cases x y xs c) [ inl e ↦ subst (λ w. R k w ≡ Less) e p | inr l ↦ o.trans k x y p (h.0 y l) ], h)
        | Equal ↦ λ p. h
        | Greater ↦ λ p. (λ y c. elim (add_in_order_cases k xs y c) [ inl e ↦ subst (λ w. R x w ≡ Less) e (greater k x p) | inr l ↦ h.0 y l ], Rises-add_in_order k xs h.1)
      ] refl

      pub Rises-in_order : (xs : List K) → Rises R (in_order R xs)
      Rises-in_order [] = tt
      Rises-in_order (x ∷ xs) = Rises-add_in_order x (in_order R xs) (Rises-in_order xs)

      pub rises-in_order : (xs : List K) → rises R (in_order R xs) ≡ true
      rises-in_order xs = rises-from_Rises (in_order R xs) (Rises-in_order xs)

      -- each member is kept
      pub in_order-has : (xs : List K) → AreAmong xs (in_order R xs)
      in_order-has [] x c = c
      in_order-has (y ∷ xs) x c = elim (Contains-cons_cases y x xs c) [
        | inl e ↦ subst (Contains (add_in_order R y (in_order R xs))) e (add_in_order-first y (in_order R xs))
        | inr l ↦ add_in_order-later y (in_order R xs) x (in_order-has xs x l)
      ]

      -- and nothing else is in the result
      pub in_order-only : (xs : List K) → AreAmong (in_order R xs) xs
      in_order-only [] x c = c
      in_order-only (y ∷ xs) x c = elim (add_in_order_cases y (in_order R xs) x c) [
        | inl e ↦ (0, omega arith, e)
        | inr l ↦ Contains-later y x xs (in_order-only xs x l)
      ]

      pub in_order-among : (xs ys : List K) → AreAmong xs ys → AreAmong (in_order R xs) (in_order R ys)
      in_order-among xs ys f x c = in_order-has ys x (f x (in_order-only xs x c))

      -- lists of the same members have the same result
      pub in_order-same : (xs ys : List K) → AreAmong xs ys → AreAmong ys xs → in_order R xs ≡ in_order R ys
      in_order-same xs ys f g = Rises-same (in_order R xs) (in_order R ys) (Rises-in_order xs) (Rises-in_order ys) (in_order-among xs ys f) (in_order-among ys xs g)
