-- Bounds on depths, and that each depth is less than the number of classes.
use Rattle.dexorder.proofs.Common.{◌≡◌, ℕ, zero, suc, ◌+◌, ◌<◌, ◌≤◌, Bool, true, false, List, [], ◌∷◌, length, refl, ap, ◌∙◌, subst, arith, inl, inr, All, Contains, list_all, range_with_len, cases_lt, All-contains, All-get_or, length-range_with_len, Contains-nil, Contains-first, Contains-later, Contains-cons_cases, list_all-member, list_all-from_members, cases_Bool, both_ways, true_from_ne_false, list_all_at, length-among, some_or_none, AreDistinct-cons, AreDistinct}
use Rattle.dexorder.specs.{parents_of, is_under, HaveParentsWithin, IsDepth, HasNone}

module _ (classes : List (List ℕ)) where
  -- less than n is less than n + 1
  pub is_under-suc : (n i : ℕ) → is_under classes n i ≡ true → is_under classes (suc n) i ≡ true
  is_under-suc zero i e = absurd cc
  is_under-suc (suc n) i e = list_all-from_members (is_under classes (suc n)) (parents_of classes i) (λ p c. is_under-suc n p (list_all-member (is_under classes n) (parents_of classes i) p e c))

  -- less than m is less than a number that is not less than m
  pub is_under-later : (m n i : ℕ) → m ≤ n → is_under classes m i ≡ true → is_under classes n i ≡ true
  is_under-later m zero i le h = let z : m ≡ 0 = omega arith in subst (λ k. is_under classes k i ≡ true) z h
  is_under-later m (suc n) i le h = elim (cases_lt m (suc n)) [
    | inl lt ↦ is_under-suc n i (is_under-later m n i (omega arith) h)
    | inr ge ↦ let z : m ≡ suc n = omega arith in subst (λ k. is_under classes k i ≡ true) z h
  ]

  -- less than n and not less than m
  pub less_than : (m n i : ℕ) → is_under classes m i ≡ false → is_under classes n i ≡ true → m < n
  less_than m n i e f = elim (cases_lt m n) [
    | inl lt ↦ lt
    | inr ge ↦ absurd (let t : is_under classes m i ≡ true = is_under-later n m i ge f in cc)
  ]

  -- a class has one depth
  pub one_depth : (i d e : ℕ) → IsDepth classes i d → IsDepth classes i e → d ≡ e
  one_depth i d e h k = omega (arith, less_than d (suc e) i h.not_under k.under, less_than e (suc d) i k.not_under h.under)

-- if a member fails a test, not all members pass it
pub list_all-fails : {X : Type 0} (p : X → Bool) (xs : List X) (x : X) → Contains xs x → p x ≡ false → list_all p xs ≡ false
list_all-fails p xs x c e = list_all_at p xs c.0 x c.1 (ap p c.2 ∙ e)

-- if not all elements pass a test, one fails it
not_all : {X : Type 0} (p : X → Bool) (xs : List X) → list_all p xs ≡ false → (x : X) × Contains xs x × (p x ≡ false)
not_all p xs e = elim (some_or_none (λ x. p x ≡ false) xs (λ x. elim (cases_Bool (p x)) [ inl t ↦ inr (λ f. both_ways (p x) f t) | inr f ↦ inl f ])) [
  | inl s ↦ s
  | inr none ↦ absurd (both_ways (list_all p xs) e (list_all-from_members p xs (λ x c. true_from_ne_false (p x) (none x c))))
]

-- a number of a range
pub Contains-range : (a n i : ℕ) → a ≤ i → i < a + n → Contains (range_with_len a n) i
Contains-range a zero i le lt = absurd (omega arith)
Contains-range a (suc n) i le lt = elim (cases_lt a i) [
  | inl l ↦ Contains-later a i (range_with_len (a + 1) n) (Contains-range (a + 1) n i (omega arith) (omega arith))
  | inr g ↦ let e : a ≡ i = omega arith in subst (Contains (range_with_len a (suc n))) e (Contains-first a (range_with_len (a + 1) n))
]

-- ---- parents

module _ (classes : List (List ℕ)) where
  -- a class that is under n has a depth below n
  least : (n i : ℕ) → is_under classes n i ≡ true → (d : ℕ) × IsDepth classes i d × (d < n)
  least zero i e = absurd cc
  least (suc n) i e = elim (cases_Bool (is_under classes n i)) [
    | inl f ↦ let s = least n i f in (s.0, s.1, omega (arith, s.2))
    | inr f ↦ (n, record { under = e; not_under = f }, omega arith)
  ]

  -- a parent has a lesser depth
  pub parent_less : (i p d : ℕ) → IsDepth classes i d → Contains (parents_of classes i) p → (e : ℕ) × IsDepth classes p e × (e < d)
  parent_less i p d h c = least d p (list_all-member (is_under classes d) (parents_of classes i) p h.under c)

  -- one parent has a depth that is one less
  pub parent_greatest : (i d : ℕ) → IsDepth classes i (suc d) → (p : ℕ) × Contains (parents_of classes i) p × IsDepth classes p d
  parent_greatest i d h =
      let s = not_all (is_under classes d) (parents_of classes i) h.not_under in
      (s.0, s.1, record { under = list_all-member (is_under classes (suc d)) (parents_of classes i) s.0 h.under s.1; not_under = s.2 })

  -- a class with a parent that has no depth has none
  pub parent_none : (i p : ℕ) → Contains (parents_of classes i) p → HasNone classes p → HasNone classes i
  parent_none i p c none zero = refl
  parent_none i p c none (suc n) = list_all-fails (is_under classes n) (parents_of classes i) p c (none n)

module _ (classes : List (List ℕ)) (within : HaveParentsWithin classes) where
  -- a parent of a class is a class
  pub parent_within : (i p : ℕ) → i < length classes → Contains (parents_of classes i) p → p < length classes
  parent_within i p lt c = All-contains (λ k. k < length classes) (parents_of classes i) p (All-get_or (All (λ k. k < length classes)) classes i [] lt within) c

  -- d classes have less than depth d, if a class has it
  lesser : (d i : ℕ) → i < length classes → IsDepth classes i d → (xs : List ℕ) × (length xs ≡ d) × AreDistinct xs × ((x : ℕ) → Contains xs x → (x < length classes) × (is_under classes d x ≡ true))
  lesser zero i lt h = ([], refl, λ k j z l m. absurd (omega arith), λ x c. absurd (Contains-nil x c))
  lesser (suc d) i lt h =
      let s = parent_greatest classes i d h in
      let less = parent_within i s.0 lt s.1 in
      let r = lesser d s.0 less s.2 in (
        s.0 ∷ r.0,
        ap suc r.1,
        AreDistinct-cons s.0 r.0 (λ c. both_ways (is_under classes d s.0) s.2.not_under (r.3 s.0 c).1) r.2,
        λ x c. elim (Contains-cons_cases s.0 x r.0 c) [
          | inl e ↦ subst (λ y. (y < length classes) × (is_under classes (suc d) y ≡ true)) e (less, s.2.under)
          | inr l ↦ ((r.3 x l).0, is_under-suc classes d x (r.3 x l).1)
        ],
      )

  -- so a depth is less than the number of classes
  pub depth_less : (i d : ℕ) → i < length classes → IsDepth classes i d → d < length classes
  depth_less i d lt h =
      let r = lesser d i lt h in
      omega (
        arith,
        r.1,
        length-range_with_len 0 (length classes),
        length-among (i ∷ r.0) (range_with_len 0 (length classes)) (AreDistinct-cons i r.0 (λ c. both_ways (is_under classes d i) h.not_under (r.3 i c).1) r.2) (λ x c. elim (Contains-cons_cases i x r.0 c) [
          | inl e ↦ Contains-range 0 (length classes) x (omega arith) (omega (arith, e))
          | inr l ↦ Contains-range 0 (length classes) x (omega arith) (omega (arith, (r.3 x l).0))
        ]),
      )
