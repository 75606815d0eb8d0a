-- Items that equal uses share: each use has the number of its item, the items are numbered in order of first use, and
-- they count at most as much as the uses.
use Rattle.dexspec.proofs.Common.{◌≡◌, ℕ, zero, suc, ◌+◌, ◌<◌, ◌≤◌, Bool, true, false, not, if◌then◌else◌, append_assoc, List, [], ◌∷◌, ◌++◌, length, get_or, map, take, drop, refl, sym, ap, ◌∙◌, subst, arith, sum_by, inl, inr, Option, Some, None, Contains, filter, list_any, position_or_len, option_map, length-append, length-take, get_or-take, get_or-map, get_or_append_left, take-append-drop, drop_more, Contains-get_or, sum_by-cons, passes_at_first, position_or_len_is}
use Rattle.std.proofs.lemmas.List.Filters.{sum_by-filter_both}
use Rattle.dexspec.specs.{AreDistinct, present, distinct, shared_items, Sharing, EqualOnce, EachForItself, items_by}
use Rattle.dexspec.proofs.lists.{IsEquality, self, turned, Contains-nil, Contains-first, Contains-later, Contains-cons_cases, list_any-source, distinct_source, any_equal, position_within, position_stays, position_last, position_mapped, position_agrees, with_last, distinct_more, distinct_prefix, distinct_has, distinct_once}

-- ---- present values

pub present-append : {X : Type 0} (us vs : List (Option X)) → present (us ++ vs) ≡ present us ++ present vs
present-append [] vs = refl
present-append (None ∷ us) vs = present-append us vs
present-append (Some x ∷ us) vs = ap (λ ys. x ∷ ys) (present-append us vs)

-- the value of a use is present
pub present_has : {X : Type 0} (uses : List (Option X)) (k : ℕ) (x : X) → k < length uses → get_or uses k None ≡ Some x → Contains (present uses) x
present_has [] k x lt e = absurd (omega arith)
present_has (None ∷ uses) zero x lt e = absurd cc
present_has (None ∷ uses) (suc k) x lt e = present_has uses k x (omega arith) e
present_has (Some y ∷ uses) zero x lt e = subst (Contains (y ∷ present uses)) (let same : y ≡ x = cc in same) (Contains-first y (present uses))
present_has (Some y ∷ uses) (suc k) x lt e = Contains-later y x (present uses) (present_has uses k x (omega arith) e)

-- each present value is that of some use
pub present_source : {X : Type 0} (uses : List (Option X)) (x : X) → Contains (present uses) x → (k : ℕ) × (k < length uses) × (get_or uses k None ≡ Some x)
present_source [] x c = absurd (Contains-nil x c)
present_source (None ∷ uses) x c = let s = present_source uses x c in (suc s.0, omega (arith, s.1), s.2)
present_source (Some y ∷ uses) x c = elim (Contains-cons_cases y x (present uses) c) [
  | inl e ↦ (0, omega arith, ap Some e)
  | inr l ↦ let s = present_source uses x l in (suc s.0, omega (arith, s.1), s.2)
]

-- ---- numbers

-- the first item that equals a member is the member
pub position_is : {X : Type 0} (same : X → X → Bool) → IsEquality same → (xs : List X) (x : X) → Contains xs x
    → (position_or_len (λ y. same y x) xs < length xs) × (get_or xs (position_or_len (λ y. same y x) xs) x ≡ x)
position_is same exact xs x c =
    let lt = position_within (λ y. same y x) xs x c ((exact x x).1 refl) in
    (lt, (exact (get_or xs (position_or_len (λ y. same y x) xs) x) x).0 (passes_at_first (λ y. same y x) xs x lt))

module _ {X : Type 0} (same : X → X → Bool) (exact : IsEquality same) where
  -- an item of a list without repeats has its own number
  own_place : (xs : List X) (i : ℕ) (d : X) → AreDistinct xs → i < length xs → position_or_len (λ y. same y (get_or xs i d)) xs ≡ i
  own_place xs i d once lt =
      position_or_len_is (λ y. same y (get_or xs i d)) xs i d (omega (arith, lt)) (λ k l. other (same (get_or xs k d) (get_or xs i d)) (λ e. once k i d l lt ((exact (get_or xs k d) (get_or xs i d)).0 e))) (λ l. self same exact (get_or xs i d))
    where
      other : (b : Bool) → (b ≡ true → ⊥) → b ≡ false
      other true never = absurd (never refl)
      other false never = refl

  -- If the item of the next member is after another item, that other one is an item already: the next member's item is
  -- one of these, or is after all of them.
  before_next : (b : Bool) (front : List X) (x : X) (more : List X) (i : ℕ) → list_any (same x) (distinct same front) ≡ b
      → position_or_len (λ y. same y x) ((if b then distinct same front else distinct same front ++ x ∷ []) ++ more) ≡ suc i → i < length (distinct same front)
  before_next true front x more i any e =
      let ds = distinct same front in
      let there = list_any-source (same x) ds any in
      let has : Contains ds x = subst (Contains ds) (sym ((exact x there.0).0 there.2)) there.1 in
      let lt = position_within (λ y. same y x) ds x has (self same exact x) in
      omega (arith, lt, position_stays (λ y. same y x) ds more lt, e)
  before_next false front x more i any e =
      let ds = distinct same front in
      let none : list_any (λ y. same y x) ds ≡ false = any_equal (λ y. same y x) (same x) (λ y. turned same exact y x) ds ∙ any in
      let last : position_or_len (λ y. same y x) (ds ++ x ∷ []) ≡ length ds = position_last (λ y. same y x) ds x none (self same exact x) in
      let lt : position_or_len (λ y. same y x) (ds ++ x ∷ []) < length (ds ++ x ∷ []) = omega (arith, last, length-append ds (x ∷ [])) in
      omega (arith, last, position_stays (λ y. same y x) (ds ++ x ∷ []) more lt, e)

  -- if a member's item is after another, that other one is among the members before
  item_before : (front : List X) (x : X) (rest : List X) (i : ℕ) (d : X) → position_or_len (λ y. same y x) (distinct same (front ++ x ∷ rest)) ≡ suc i
      → Contains front (get_or (distinct same (front ++ x ∷ rest)) i d)
  item_before front x rest i d e =
      let ds = distinct same front in
      let more = distinct_prefix same exact (front ++ x ∷ []) rest in
      let parts : distinct same (front ++ x ∷ rest) ≡ with_last same ds x ++ more.0 =
      ap (distinct same) (sym (append_assoc front (x ∷ []) rest)) ∙ more.1 ∙ ap (λ ys. ys ++ more.0) (distinct_more same exact front x) in
      let lt : i < length ds = before_next (list_any (same x) ds) front x more.0 i refl (ap (position_or_len (λ y. same y x)) (sym parts) ∙ e) in
      let first = distinct_prefix same exact front (x ∷ rest) in
      let item : get_or (distinct same (front ++ x ∷ rest)) i d ≡ get_or ds i d = ap (λ ys. get_or ys i d) first.1 ∙ get_or_append_left ds first.0 d i lt in
      subst (Contains front) (sym item) (distinct_source same front (get_or ds i d) (Contains-get_or ds i d lt))

  -- the number of a use
  abbrev number_in : List X → X → ℕ
  number_in ds x = position_or_len (λ y. same y x) ds

  -- case split on the use
  first_use_by : (uses : List (Option X)) (k i : ℕ) (u : Option X) → k < length uses → get_or uses k None ≡ u → option_map (number_in (distinct same (present uses))) u ≡ Some (suc i)
      → (j : ℕ) × (j < k) × (option_map (number_in (distinct same (present uses))) (get_or uses j None) ≡ Some i)
  first_use_by uses k i None lt is e = absurd cc
  first_use_by uses k i (Some x) lt is e =
      let front = present (take k uses) in
      let rest = present (drop (k + 1) uses) in
      let parts : present uses ≡ front ++ x ∷ rest =
      ap present (sym (take-append-drop k uses) ∙ ap (λ us. take k uses ++ us) (drop_more uses k None lt ∙ ap (λ u. u ∷ drop (k + 1) uses) is)) ∙ present-append (take k uses) (Some x ∷ drop (k + 1) uses) in
      let ds = distinct same (present uses) in
      let at : number_in ds x ≡ suc i = some_is (number_in ds x) (suc i) e in
      let within : suc i < length ds = omega (arith, at, (position_is same exact ds x (distinct_has same (λ y z. (exact y z).0) (present uses) x (present_has uses k x lt is))).0) in
      let before = item_before front x rest i x (ap (λ ys. number_in (distinct same ys) x) (sym parts) ∙ at) in
      let y = get_or ds i x in
      let s = present_source (take k uses) y (subst (λ ys. Contains front (get_or (distinct same ys) i x)) (sym parts) before) in
      let less : s.0 < k = omega (arith, s.1, length-take k uses) in
      let has : get_or uses s.0 None ≡ Some y = sym (get_or-take k uses s.0 None less) ∙ s.2 in
      (s.0, less, ap (option_map (number_in ds)) has ∙ ap Some (own_place ds i x (distinct_once same (self same exact) (present uses)) (omega (arith, within))))
    where
      some_is : (m n : ℕ) → Some m ≡ Some n → m ≡ n
      some_is m n e = cc

  -- before the first use of an item there is a use of the item before it
  pub first_uses_rise : (uses : List (Option X)) (k i : ℕ) → k < length uses → get_or (shared_items same uses).numbers k None ≡ Some (suc i)
      → (j : ℕ) × (j < k) × (get_or (shared_items same uses).numbers j None ≡ Some i)
  first_uses_rise uses k i lt e =
      let number = option_map (number_in (distinct same (present uses))) in
      let s = first_use_by uses k i (get_or uses k None) lt refl (sym (get_or-map number uses k None None lt) ∙ e) in
      (s.0, s.1, get_or-map number uses s.0 None None (omega (arith, s.1, lt)) ∙ s.2)

-- uses under an injective map have the same numbers
pub numbers_mapped : {X Y : Type 0} (f : X → Y) (same : X → X → Bool) (equivalent : Y → Y → Bool) (us : List (Option X)) (ds : List X) → ((x y : X) → Contains ds y → Contains (present us) x → equivalent (f y) (f x) ≡ same y x)
    → map (option_map (λ x. position_or_len (λ y. equivalent y x) (map f ds))) (map (option_map f) us) ≡ map (option_map (λ x. position_or_len (λ y. same y x) ds)) us
numbers_mapped f same equivalent [] ds e = refl
numbers_mapped f same equivalent (None ∷ us) ds e = ap (λ ns. None ∷ ns) (numbers_mapped f same equivalent us ds e)
numbers_mapped f same equivalent (Some x ∷ us) ds e =
    let rest = map (option_map (λ x. position_or_len (λ y. equivalent y x) (map f ds))) (map (option_map f) us) in
    ap (λ n. Some n ∷ rest) (position_mapped f (λ y. equivalent y (f x)) ds ∙ position_agrees (λ y. equivalent (f y) (f x)) (λ y. same y x) ds (λ y c. e x y c (Contains-first x (present us))))
    ∙ ap (λ ns. Some (position_or_len (λ y. same y x) ds) ∷ ns) (numbers_mapped f same equivalent us ds (λ z y cy cz. e z y cy (Contains-later x z (present us) cz)))

-- ---- sums

-- a filtered list counts at most as much
sum_by-filter : {X : Type 0} (f : X → ℕ) (p : X → Bool) (xs : List X) → sum_by f (filter p xs) ≤ sum_by f xs
sum_by-filter f p xs = omega (arith, sum_by-filter_both p (λ x. not (p x)) (λ _. refl) f xs)

-- a list without its repeats counts at most as much
pub sum_by-distinct : {X : Type 0} (f : X → ℕ) (same : X → X → Bool) (xs : List X) → sum_by f (distinct same xs) ≤ sum_by f xs
sum_by-distinct f same [] = omega arith
sum_by-distinct {X} f same (x ∷ xs) =
    omega (arith, sum_by-cons {X = X}, sum_by-filter f (λ y. not (same x y)) (distinct same xs), sum_by-distinct f same xs)

-- the items of uses count at most as much as the uses
pub sum_by-items : {X : Type 0} (how : Sharing) (same : X → X → Bool) (f : X → ℕ) (uses : List (Option X)) → sum_by f (items_by how same uses).written ≤ sum_by f (present uses)
sum_by-items EqualOnce same f uses = sum_by-distinct f same (present uses)
sum_by-items EachForItself same f uses = omega arith
