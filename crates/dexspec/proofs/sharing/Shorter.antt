-- Items that cover others: a list in which each of the others has a matching item that is at least as long. A section
-- whose items are covered ends no later, and offsets that are no greater, or are zero at the same places, make items
-- that are covered.
use Rattle.dexspec.proofs.Common.{AllZip, get_or, ◌≡◌, ◌⊎◌, ℕ, zero, suc, ◌+◌, ◌<◌, ◌≤◌, Ordering, Bool, true, false, cond, not, if◌then◌else◌, ◌==◌, List, [], ◌∷◌, ◌++◌, length, map, take, drop, zip, flat_map, refl, sym, ap, subst, ◌∙◌, arith, inl, inr, slice_index, nat_lt, Option, Some, None, filter, option_map_or, nat_cmp, Greater, eqb-true, lt-ltb, ltb-true, map-append}
use Rattle.std.specs.FinMap.Entries.{by_order}
use Rattle.dexspec.specs.{present, zip_with, distinct, chunks, add_in_order, in_order, round_up, size_u, uleb128, offsets_from, end_from, own_numbers, pair_cmp, pairs}
use Rattle.dexspec.proofs.numbers.Groups.{length-groups}
use Rattle.dexspec.proofs.layout.Places.{IsAlign, length-padding, end_from_le}
use Rattle.dexspec.proofs.layout.Placements.{numbers_offsets}

-- ---- lists that agree place by place

module _ {A B : Type 0} (R : A → B → Type 0) where
  pub zip_take : (n : ℕ) (xs : List A) (ys : List B) → AllZip R xs ys → AllZip R (take n xs) (take n ys)
  zip_take (suc n) [] (y ∷ ys) h = absurd h
  zip_take (suc n) (x ∷ xs) [] h = absurd h
  zip_take (suc n) (x ∷ xs) (y ∷ ys) h = (h.0, zip_take n xs ys h.1)
  zip_take _ _ _ h = tt

  pub zip_drop : (n : ℕ) (xs : List A) (ys : List B) → AllZip R xs ys → AllZip R (drop n xs) (drop n ys)
  zip_drop zero xs ys h = h
  zip_drop (suc n) [] [] h = tt
  zip_drop (suc n) (x ∷ xs) (y ∷ ys) h = zip_drop n xs ys h.1
  zip_drop _ _ _ h = absurd h

  pub zip_chunks : (ns : List ℕ) (xs : List A) (ys : List B) → AllZip R xs ys → AllZip (AllZip R) (chunks ns xs) (chunks ns ys)
  zip_chunks [] xs ys h = tt
  zip_chunks (n ∷ ns) xs ys h = (zip_take n xs ys h, zip_chunks ns (drop n xs) (drop n ys) (zip_drop n xs ys h))

  pub zip_from : (d : A) (e : B) (xs : List A) (ys : List B) → length xs ≡ length ys → ((k : ℕ) → k < length xs → R (get_or xs k d) (get_or ys k e)) → AllZip R xs ys
  zip_from d e [] [] same each = tt
  zip_from d e (x ∷ xs) (y ∷ ys) same each = (each 0 (omega arith), zip_from d e xs ys (omega (arith, same)) (λ k lt. each (suc k) (omega (arith, lt))))
  zip_from d e _ _ same each = absurd (omega (arith, same))

  module _ {C D : Type 0} (S : C → D → Type 0) where
    pub zip_map : (f : A → C) (g : B → D) → ((x : A) (y : B) → R x y → S (f x) (g y)) → (xs : List A) (ys : List B) → AllZip R xs ys → AllZip S (map f xs) (map g ys)
    zip_map f g each [] [] h = tt
    zip_map f g each (x ∷ xs) (y ∷ ys) h = (each x y h.0, zip_map f g each xs ys h.1)
    zip_map f g each _ _ h = absurd h

    pub zip_combine : {E : Type 0} (f : E → A → C) (g : E → B → D) → ((e : E) (x : A) (y : B) → R x y → S (f e x) (g e y)) → (es : List E) (xs : List A) (ys : List B) → AllZip R xs ys → AllZip S (zip_with f es xs) (zip_with g es ys)
    zip_combine f g each (e ∷ es) [] (y ∷ ys) h = absurd h
    zip_combine f g each (e ∷ es) (x ∷ xs) [] h = absurd h
    zip_combine f g each (e ∷ es) (x ∷ xs) (y ∷ ys) h = (each e x y h.0, zip_combine f g each es xs ys h.1)
    zip_combine f g each _ _ _ h = tt

    -- two lists beside each other
    pub zip_pairs : (xs : List A) (ys : List B) (us : List C) (vs : List D) → AllZip R xs ys → AllZip S us vs → AllZip (λ p q. R p.0 q.0 × S p.1 q.1) (zip xs us) (zip ys vs)
    zip_pairs [] (y ∷ ys) us vs h k = absurd h
    zip_pairs (x ∷ xs) [] us vs h k = absurd h
    zip_pairs (x ∷ xs) (y ∷ ys) [] (v ∷ vs) h k = absurd k
    zip_pairs (x ∷ xs) (y ∷ ys) (u ∷ us) [] h k = absurd k
    zip_pairs (x ∷ xs) (y ∷ ys) (u ∷ us) (v ∷ vs) h k = ((h.0, k.0), zip_pairs xs ys us vs h.1 k.1)
    zip_pairs _ _ _ _ h k = tt

-- ---- items

-- the items are covered by others: each by one that is no shorter, in their order
abbrev pub IsCovered : List (List ℕ) → List (List ℕ) → Type 0
IsCovered [] ys = Unit {0}
IsCovered (x ∷ xs) [] = ⊥
IsCovered (x ∷ xs) (y ∷ ys) = ((length x ≤ length y) × IsCovered xs ys) ⊎ IsCovered (x ∷ xs) ys

pub covered_itself : (xs : List (List ℕ)) → IsCovered xs xs
covered_itself [] = tt
covered_itself (x ∷ xs) = inl (omega arith, covered_itself xs)

pub covered_then : (xs ys zs : List (List ℕ)) → IsCovered xs ys → IsCovered ys zs → IsCovered xs zs
covered_then [] ys zs h k = tt
covered_then (x ∷ xs) [] zs h k = absurd h
covered_then (x ∷ xs) (y ∷ ys) [] h k = absurd k
covered_then (x ∷ xs) (y ∷ ys) (z ∷ zs) h (inr k) = inr (covered_then (x ∷ xs) (y ∷ ys) zs h k)
covered_then (x ∷ xs) (y ∷ ys) (z ∷ zs) (inl h) (inl k) = inl (omega (arith, h.0, k.0), covered_then xs ys zs h.1 k.1)
covered_then (x ∷ xs) (y ∷ ys) (z ∷ zs) (inr h) (inl k) = inr (covered_then (x ∷ xs) ys zs h k.1)

covered_more : (xs ys more : List (List ℕ)) → IsCovered xs ys → IsCovered xs (more ++ ys)
covered_more [] ys more h = tt
covered_more (x ∷ xs) ys [] h = h
covered_more (x ∷ xs) ys (y ∷ more) h = inr (covered_more (x ∷ xs) ys more h)

covered_after : (front xs ys : List (List ℕ)) → IsCovered xs ys → IsCovered (front ++ xs) (front ++ ys)
covered_after [] xs ys h = h
covered_after (x ∷ front) xs ys h = inl (omega arith, covered_after front xs ys h)

pub covered_few : (xs ys : List (List ℕ)) → IsCovered xs ys → length xs ≤ length ys
covered_few [] ys h = omega arith
covered_few (x ∷ xs) [] h = absurd h
covered_few (x ∷ xs) (y ∷ ys) (inl h) = omega (arith, covered_few xs ys h.1)
covered_few (x ∷ xs) (y ∷ ys) (inr h) = omega (arith, covered_few (x ∷ xs) ys h)

module _ {X : Type 0} (f : X → List (List ℕ)) where
  covered_filter : (p : X → Bool) (xs : List X) → IsCovered (flat_map f (filter p xs)) (flat_map f xs)
  covered_filter p [] = tt
  covered_filter p (x ∷ xs) = by (p x) (covered_filter p xs)
    where
      by : (b : Bool) → IsCovered (flat_map f (filter p xs)) (flat_map f xs) → IsCovered (flat_map f (cond b (x ∷ filter p xs) (filter p xs))) (f x ++ flat_map f xs)
      by true h = covered_after (f x) (flat_map f (filter p xs)) (flat_map f xs) h
      by false h = covered_more (flat_map f (filter p xs)) (flat_map f xs) (f x) h

  -- the bytes of the distinct members are covered by the bytes of all members
  covered_distinct : (same : X → X → Bool) (xs : List X) → IsCovered (flat_map f (distinct same xs)) (flat_map f xs)
  covered_distinct same [] = tt
  covered_distinct same (x ∷ xs) =
      let ds = distinct same xs in
      let kept = filter (λ y. not (same x y)) ds in
      covered_after (f x) (flat_map f kept) (flat_map f xs) (covered_then (flat_map f kept) (flat_map f ds) (flat_map f xs) (covered_filter (λ y. not (same x y)) ds) (covered_distinct same xs))

module _ {X : Type 0} (g : X → List ℕ) where
  one_each : (xs : List X) → flat_map (λ x. g x ∷ []) xs ≡ map g xs
  one_each [] = refl
  one_each (x ∷ xs) = ap (λ ys. g x ∷ ys) (one_each xs)

  each_list : (xss : List (List X)) → flat_map (map g) xss ≡ map g (flat_map (λ xs. xs) xss)
  each_list [] = refl
  each_list (xs ∷ xss) = ap (λ ys. map g xs ++ ys) (each_list xss) ∙ sym (map-append g xs (flat_map (λ xs. xs) xss))

  -- one item for each member
  pub covered_items : (same : X → X → Bool) (xs : List X) → IsCovered (map g (distinct same xs)) (map g xs)
  covered_items same xs = subst (λ ys. IsCovered ys (map g xs)) (one_each (distinct same xs)) (subst (IsCovered (flat_map (λ x. g x ∷ []) (distinct same xs))) (one_each xs) (covered_distinct (λ x. g x ∷ []) same xs))

  -- several items for each member
  pub covered_lists : (same : List X → List X → Bool) (xss : List (List X)) → IsCovered (map g (flat_map (λ xs. xs) (distinct same xss))) (map g (flat_map (λ xs. xs) xss))
  covered_lists same xss = subst (λ ys. IsCovered ys (map g (flat_map (λ xs. xs) xss))) (each_list (distinct same xss)) (subst (IsCovered (flat_map (map g) (distinct same xss))) (each_list xss) (covered_distinct (map g) same xss))

-- ---- the end of a section

round_up_most : (align m n : ℕ) → IsAlign align → m ≤ n → round_up align m ≤ round_up align n
round_up_most align m n (inl e) le = subst (λ a. round_up a m ≤ round_up a n) (sym e) (omega (arith, le))
round_up_most align m n (inr e) le = subst (λ a. round_up a m ≤ round_up a n) (sym e) (omega (arith, le))

-- the items end no later than those that cover them
pub end_covered : (align : ℕ) → IsAlign align → (m n : ℕ) (xs ys : List (List ℕ)) → IsCovered xs ys → m ≤ n → end_from align m xs ≤ end_from align n ys
end_covered align is m n [] ys h le = omega (arith, le, end_from_le align n ys)
end_covered align is m n (x ∷ xs) [] h le = absurd h
end_covered align is m n (x ∷ xs) (y ∷ ys) (inl h) le =
    end_covered align is (round_up align m + length x) (round_up align n + length y) xs ys h.1 (omega (arith, h.0, round_up_most align m n is le))
end_covered align is m n (x ∷ xs) (y ∷ ys) (inr h) le =
    end_covered align is m (round_up align n + length y) (x ∷ xs) ys h (omega (arith, le, length-padding align n))

-- ---- offsets that are no greater

-- each offset is at most the other at its place
abbrev pub AreBelow : List ℕ → List ℕ → Type 0
AreBelow = AllZip ◌≤◌

below_at : (os ps : List ℕ) → AreBelow os ps → (i : ℕ) → slice_index os i ≤ slice_index ps i
below_at [] [] h i = omega arith
below_at (o ∷ os) (p ∷ ps) h zero = h.0
below_at (o ∷ os) (p ∷ ps) h (suc i) = below_at os ps h.1 i
below_at _ _ h i = absurd h

below_number : (os ps : List ℕ) → AreBelow os ps → (n : Option ℕ) → option_map_or (slice_index os) n 0 ≤ option_map_or (slice_index ps) n 0
below_number os ps h None = omega arith
below_number os ps h (Some i) = below_at os ps h i

-- also for uses with the same numbers
pub uses_below : (os ps : List ℕ) → AreBelow os ps → (numbers : List (Option ℕ)) → AreBelow (numbers_offsets numbers os) (numbers_offsets numbers ps)
uses_below os ps h [] = tt
uses_below os ps h (n ∷ numbers) = (below_number os ps h n, uses_below os ps h numbers)

-- a greater number has at least as many bytes
at_least : (b : Bool) (k n x : ℕ) → k ≤ n → k ≤ x → k ≤ (if b then n else x)
at_least true k n x le other = le
at_least false k n x le other = other

pick : (a b : Bool) (n x y : ℕ) → (b ≡ true → a ≡ true) → n ≤ y → x ≤ y → (if a then n else x) ≤ (if b then n else y)
pick true true n x y more le other = omega arith
pick true false n x y more le other = le
pick false true n x y more le other = absurd (let e : false ≡ true = more refl in cc)
pick false false n x y more le other = other

less_too : (v w k : ℕ) → v ≤ w → nat_lt w k ≡ true → nat_lt v k ≡ true
less_too v w k le e = lt-ltb v k (omega (arith, le, ltb-true w k e))

size_u_most : (v w : ℕ) → v ≤ w → size_u v ≤ size_u w
size_u_most v w le =
    let four : ℕ → ℕ = λ n. if nat_lt n 0x10000000 then 4 else 5 in
    let three : ℕ → ℕ = λ n. if nat_lt n 0x200000 then 3 else four n in
    let two : ℕ → ℕ = λ n. if nat_lt n 0x4000 then 2 else three n in
    let four_least : (k : ℕ) → k ≤ 4 → k ≤ four w = λ k l. at_least (nat_lt w 0x10000000) k 4 5 l (omega (arith, l)) in
    let three_least : (k : ℕ) → k ≤ 3 → k ≤ three w = λ k l. at_least (nat_lt w 0x200000) k 3 (four w) l (four_least k (omega (arith, l))) in
    let two_least : (k : ℕ) → k ≤ 2 → k ≤ two w = λ k l. at_least (nat_lt w 0x4000) k 2 (three w) l (three_least k (omega (arith, l))) in
    pick (nat_lt v 0x80) (nat_lt w 0x80) 1 (two v) (two w) (less_too v w 0x80 le) (two_least 1 (omega arith))
    (pick (nat_lt v 0x4000) (nat_lt w 0x4000) 2 (three v) (three w) (less_too v w 0x4000 le) (three_least 2 (omega arith))
    (pick (nat_lt v 0x200000) (nat_lt w 0x200000) 3 (four v) (four w) (less_too v w 0x200000 le) (four_least 3 (omega arith))
    (pick (nat_lt v 0x10000000) (nat_lt w 0x10000000) 4 5 5 (less_too v w 0x10000000 le) (omega arith) (omega arith))))

pub uleb128_most : (v w : ℕ) → v ≤ w → length (uleb128 v) ≤ length (uleb128 w)
uleb128_most v w le = omega (arith, size_u_most v w le, length-groups (size_u v) v, length-groups (size_u w) w)

-- ---- offsets that are zero at the same places

-- both are zero, or neither is
abbrev pub AreEquivalent : ℕ → ℕ → Type 0
AreEquivalent o p = ((o ≡ 0) × (p ≡ 0)) ⊎ ((0 < o) × (0 < p))

pub not_zero : (o : ℕ) → 0 < o → (o == 0) ≡ false
not_zero o some = by (o == 0) refl
  where
    by : (b : Bool) → (o == 0) ≡ b → b ≡ false
    by true e = absurd (omega (arith, some, eqb-true o 0 e))
    by false e = refl

pub zero_equivalent : (o p : ℕ) → AreEquivalent o p → (o == 0) ≡ (p == 0)
zero_equivalent o p (inl h) = ap (λ n. n == 0) (h.0 ∙ sym h.1)
zero_equivalent o p (inr h) = not_zero o h.0 ∙ sym (not_zero p h.1)

-- at each place
abbrev pub AllEquivalent : List ℕ → List ℕ → Type 0
AllEquivalent = AllZip AreEquivalent

-- in each list
abbrev pub ListsEquivalent : List (List ℕ) → List (List ℕ) → Type 0
ListsEquivalent = AllZip AllEquivalent

pub equivalent_first : (os ps : List ℕ) → AllEquivalent os ps → AreEquivalent (slice_index os 0) (slice_index ps 0)
equivalent_first [] [] h = inl (refl, refl)
equivalent_first (o ∷ os) (p ∷ ps) h = h.0
equivalent_first _ _ h = absurd h

pub firsts_equivalent : (oss pss : List (List ℕ)) → ListsEquivalent oss pss → AllEquivalent (map (λ os. slice_index os 0) oss) (map (λ ps. slice_index ps 0) pss)
firsts_equivalent = zip_map AllEquivalent AreEquivalent (λ os. slice_index os 0) (λ ps. slice_index ps 0) equivalent_first

-- two lists of items of one length, from offsets that are not 0, have offsets that are zero at the same places
pub offsets_equivalent : (align m n : ℕ) (xs ys : List (List ℕ)) → length xs ≡ length ys → 0 < m → 0 < n → (i : ℕ) → AreEquivalent (slice_index (offsets_from align m xs) i) (slice_index (offsets_from align n ys) i)
offsets_equivalent align m n [] [] e some other i = inl (refl, refl)
offsets_equivalent align m n [] (y ∷ ys) e some other i = absurd (omega (arith, e))
offsets_equivalent align m n (x ∷ xs) [] e some other i = absurd (omega (arith, e))
offsets_equivalent align m n (x ∷ xs) (y ∷ ys) e some other zero = inr (omega (arith, some, length-padding align m), omega (arith, other, length-padding align n))
offsets_equivalent align m n (x ∷ xs) (y ∷ ys) e some other (suc i) =
    offsets_equivalent align (round_up align m + length x) (round_up align n + length y) xs ys (omega (arith, e)) (omega (arith, some, length-padding align m)) (omega (arith, other, length-padding align n)) i

number_equivalent : (os ps : List ℕ) → ((i : ℕ) → AreEquivalent (slice_index os i) (slice_index ps i)) → (n : Option ℕ) → AreEquivalent (option_map_or (slice_index os) n 0) (option_map_or (slice_index ps) n 0)
number_equivalent os ps each None = inl (refl, refl)
number_equivalent os ps each (Some i) = each i

-- also for uses with the same numbers
pub uses_equivalent : (os ps : List ℕ) → ((i : ℕ) → AreEquivalent (slice_index os i) (slice_index ps i)) → (numbers : List (Option ℕ)) → AllEquivalent (numbers_offsets numbers os) (numbers_offsets numbers ps)
uses_equivalent os ps each [] = tt
uses_equivalent os ps each (n ∷ numbers) = (number_equivalent os ps each n, uses_equivalent os ps each numbers)

-- ---- uses that are covered

-- neither has an item, or the item of the first is no longer
abbrev pub IsCoveredUse : {X Y : Type 0} → (X → List ℕ) → (Y → List ℕ) → Option X → Option Y → Type 0
IsCoveredUse g h None None = Unit {0}
IsCoveredUse g h None (Some y) = ⊥
IsCoveredUse g h (Some x) None = ⊥
IsCoveredUse g h (Some x) (Some y) = length (g x) ≤ length (h y)

-- each use
abbrev pub AreCoveredUses : {X Y : Type 0} → (X → List ℕ) → (Y → List ℕ) → List (Option X) → List (Option Y) → Type 0
AreCoveredUses g h = AllZip (IsCoveredUse g h)

module _ {X Y : Type 0} (g : X → List ℕ) (h : Y → List ℕ) where
  -- their items are covered
  pub covered_present : (us : List (Option X)) (vs : List (Option Y)) → AreCoveredUses g h us vs → IsCovered (map g (present us)) (map h (present vs))
  covered_present [] [] c = tt
  covered_present (None ∷ us) (None ∷ vs) c = covered_present us vs c.1
  covered_present (None ∷ us) (Some y ∷ vs) c = absurd c.0
  covered_present (Some x ∷ us) (None ∷ vs) c = absurd c.0
  covered_present (Some x ∷ us) (Some y ∷ vs) c = inl (c.0, covered_present us vs c.1)
  covered_present _ _ c = absurd c

  -- they have the same numbers
  pub covered_numbers : (n : ℕ) (us : List (Option X)) (vs : List (Option Y)) → AreCoveredUses g h us vs → own_numbers n us ≡ own_numbers n vs
  covered_numbers n [] [] c = refl
  covered_numbers n (None ∷ us) (None ∷ vs) c = ap (λ ns. None ∷ ns) (covered_numbers n us vs c.1)
  covered_numbers n (None ∷ us) (Some y ∷ vs) c = absurd c.0
  covered_numbers n (Some x ∷ us) (None ∷ vs) c = absurd c.0
  covered_numbers n (Some x ∷ us) (Some y ∷ vs) c = ap (λ ns. Some n ∷ ns) (covered_numbers (n + 1) us vs c.1)
  covered_numbers n _ _ c = absurd c

  -- their counts are equal
  pub covered_count : (us : List (Option X)) (vs : List (Option Y)) → AreCoveredUses g h us vs → length (map g (present us)) ≡ length (map h (present vs))
  covered_count [] [] c = refl
  covered_count (None ∷ us) (None ∷ vs) c = covered_count us vs c.1
  covered_count (None ∷ us) (Some y ∷ vs) c = absurd c.0
  covered_count (Some x ∷ us) (None ∷ vs) c = absurd c.0
  covered_count (Some x ∷ us) (Some y ∷ vs) c = ap suc (covered_count us vs c.1)
  covered_count _ _ c = absurd c

  -- they begin at offsets that are no greater
  pub offsets_below : (align m n : ℕ) → IsAlign align → (us : List (Option X)) (vs : List (Option Y)) → AreCoveredUses g h us vs → m ≤ n → AreBelow (offsets_from align m (map g (present us))) (offsets_from align n (map h (present vs)))
  offsets_below align m n is [] [] c le = tt
  offsets_below align m n is [] (v ∷ vs) c le = absurd c
  offsets_below align m n is (u ∷ us) [] c le = absurd c
  offsets_below align m n is (None ∷ us) (None ∷ vs) c le = offsets_below align m n is us vs c.1 le
  offsets_below align m n is (None ∷ us) (Some y ∷ vs) c le = absurd c.0
  offsets_below align m n is (Some x ∷ us) (None ∷ vs) c le = absurd c.0
  offsets_below align m n is (Some x ∷ us) (Some y ∷ vs) c le =
      let at = round_up_most align m n is le in
      (at, offsets_below align (round_up align m + length (g x)) (round_up align n + length (h y)) is us vs c.1 (omega (arith, at, c.0)))

-- ---- pairs of an index and an offset

firsts_by : (o : Ordering) (p q : ℕ × ℕ) (qs : List (ℕ × ℕ)) (rest : List ℕ) → map (λ (p : ℕ × ℕ). p.0) (add_in_order pair_cmp p qs) ≡ rest
    → map (λ (p : ℕ × ℕ). p.0) (by_order o (p ∷ q ∷ qs) (q ∷ qs) (q ∷ add_in_order pair_cmp p qs)) ≡ by_order o (p.0 ∷ q.0 ∷ map (λ (p : ℕ × ℕ). p.0) qs) (q.0 ∷ map (λ (p : ℕ × ℕ). p.0) qs) (q.0 ∷ rest)
firsts_by Greater p q qs rest e = ap (λ is. q.0 ∷ is) e
firsts_by _ p q qs rest e = refl

firsts_added : (p : ℕ × ℕ) (qs : List (ℕ × ℕ)) → map (λ (p : ℕ × ℕ). p.0) (add_in_order pair_cmp p qs) ≡ add_in_order nat_cmp p.0 (map (λ (p : ℕ × ℕ). p.0) qs)
firsts_added p [] = refl
firsts_added p (q ∷ qs) = firsts_by (nat_cmp p.0 q.0) p q qs (add_in_order nat_cmp p.0 (map (λ (p : ℕ × ℕ). p.0) qs)) (firsts_added p qs)

-- the indices of pairs in order are the indices in order
firsts_ordered : (ps : List (ℕ × ℕ)) → map (λ (p : ℕ × ℕ). p.0) (in_order pair_cmp ps) ≡ in_order nat_cmp (map (λ (p : ℕ × ℕ). p.0) ps)
firsts_ordered [] = refl
firsts_ordered (p ∷ ps) = firsts_added p (in_order pair_cmp ps) ∙ ap (add_in_order nat_cmp p.0) (firsts_ordered ps)

-- the pairs without those at offset 0
abbrev some_pairs : List ℕ → List ℕ → List (ℕ × ℕ)
some_pairs indices offs = flat_map (λ (p : ℕ × ℕ). if p.1 == 0 then [] else p ∷ []) (zip indices offs)

kept_by : (b c : Bool) (i o p : ℕ) (os ps : List (ℕ × ℕ)) → b ≡ c → map (λ (p : ℕ × ℕ). p.0) os ≡ map (λ (p : ℕ × ℕ). p.0) ps
    → map (λ (p : ℕ × ℕ). p.0) ((if b then [] else (i, o) ∷ []) ++ os) ≡ map (λ (p : ℕ × ℕ). p.0) ((if c then [] else (i, p) ∷ []) ++ ps)
kept_by true true i o p os ps same e = e
kept_by false false i o p os ps same e = ap (λ is. i ∷ is) e
kept_by _ _ i o p os ps same e = absurd cc

firsts_equivalent_pairs : (indices os ps : List ℕ) → AllEquivalent os ps → map (λ (p : ℕ × ℕ). p.0) (some_pairs indices os) ≡ map (λ (p : ℕ × ℕ). p.0) (some_pairs indices ps)
firsts_equivalent_pairs (i ∷ indices) [] (p ∷ ps) h = absurd h
firsts_equivalent_pairs (i ∷ indices) (o ∷ os) [] h = absurd h
firsts_equivalent_pairs (i ∷ indices) (o ∷ os) (p ∷ ps) h = kept_by (o == 0) (p == 0) i o p (some_pairs indices os) (some_pairs indices ps) (zero_equivalent o p h.0) (firsts_equivalent_pairs indices os ps h.1)
firsts_equivalent_pairs _ _ _ h = refl

length-firsts : (ps : List (ℕ × ℕ)) → length (map (λ (p : ℕ × ℕ). p.0) ps) ≡ length ps
length-firsts [] = refl
length-firsts (p ∷ ps) = ap suc (length-firsts ps)

-- offsets that are zero at the same places make as many pairs
pub pairs_equivalent : (indices os ps : List ℕ) → AllEquivalent os ps → length (pairs indices os) ≡ length (pairs indices ps)
pairs_equivalent indices os ps h =
    sym (length-firsts (pairs indices os)) ∙ ap (λ (is : List ℕ). length is) (firsts_ordered (some_pairs indices os) ∙ ap (in_order nat_cmp) (firsts_equivalent_pairs indices os ps h) ∙ sym (firsts_ordered (some_pairs indices ps)))
    ∙ length-firsts (pairs indices ps)
