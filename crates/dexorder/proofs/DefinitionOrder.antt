-- The order of numbered classes is that of the definitions that they number.
use Rattle.dexorder.proofs.Common.{◌≡◌, ◌≢◌, ℕ, ◌+◌, ◌<◌, true, List, [], ◌∷◌, length, map, get_or, Option, Some, None, Ordering, Less, Equal, Greater, refl, sym, ap, ◌∙◌, subst, arith, All, Contains, range_with_len, IsPermutation, IsSome, unwrap_or, nat_cmp, ordering_then, ordering_reverse, IsTotalOrder, ranked, nat_cmp_total, on_total, then_total, get_or_default, get_or-map, Contains-get_or, get_or-range_with_len, length-range_with_len, Contains-permutation, IsPermutation-sym, AreDistinct, rises, Text, text_cmp, Definition, depth, place_cmp, in_class_order, AreAmong, Contains-first, Contains-later, Contains-map, Contains-map_source, class_place as definition_place, in_class_order-only, in_class_order-has, class_places-rise, map-length, text_total, text_exact}
use Rattle.dexspec.proofs.lists.InOrder.{Rises, Rises-from_rises, Rises-same}
use Rattle.dexorder.specs.{IsDepthOrNone, AreDepths, class_place, class_cmp, defined_name, AreClassParents, AreDepthsOf, AreNamesOf}
use Rattle.dexorder.proofs.DepthLaws.{Contains-range}
use Rattle.dexorder.proofs.DefinitionDepths.{same_depth}
use Rattle.dexorder.proofs.PlaceLaws.{class_total}

-- ---- orders

place_total : IsTotalOrder place_cmp
place_total = then_total (on_total (λ (x : ℕ × Text). x.0) nat_cmp_total) (on_total (λ (x : ℕ × Text). x.1) text_total)

-- less by the same first order and a second that implies the other
less_along : (a b c : Ordering) → (b ≡ Less → c ≡ Less) → ordering_then a b ≡ Less → ordering_then a c ≡ Less
less_along Less b c f e = refl
less_along Equal b c f e = f e
less_along Greater b c f e = absurd cc

-- a rising list of numbers that is mapped to another order
Rises-along : {X Y : Type 0} (R : X → X → Ordering) (S : Y → Y → Ordering) (f : ℕ → X) (g : ℕ → Y) (ks : List ℕ) → ((i j : ℕ) → Contains ks i → Contains ks j → R (f i) (f j) ≡ Less → S (g i) (g j) ≡ Less) → Rises R (map f ks) → Rises S (map g ks)
Rises-along R S f g [] h r = tt
Rises-along R S f g (k ∷ ks) h r = (
  λ y c. let s = Contains-map_source g ks y c in
      subst (λ z. S (g k) z ≡ Less) s.2 (h k s.0 (Contains-first k ks) (Contains-later k s.0 ks s.1) (r.0 (f s.0) (Contains-map f ks s.0 s.1))),
  Rises-along R S f g ks (λ i j c d. h i j (Contains-later k i ks c) (Contains-later k j ks d)) r.1,
)

-- a rising list that was mapped
pub Rises-mapped : {X Y : Type 0} (R : Y → Y → Ordering) (f : X → Y) (xs : List X) → Rises R (map f xs) → Rises (λ x y. R (f x) (f y)) xs
Rises-mapped R f [] r = tt
Rises-mapped R f (x ∷ xs) r = (λ y c. r.0 (f y) (Contains-map f xs y c), Rises-mapped R f xs r.1)

-- a number of the range is below its end
pub range_below : (n i : ℕ) → Contains (range_with_len 0 n) i → i < n
range_below n i c =
    let less : c.0 < n = omega (arith, c.1, length-range_with_len 0 n) in
    let e : 0 + c.0 ≡ i = sym (get_or-range_with_len 0 n c.0 i less) ∙ c.2 in
    omega arith

-- ---- names

module _ (D : List Definition) (names : List ℕ) (h : AreNamesOf D names) where
  -- the numbers of different names are different
  pub names_distinct : AreDistinct (map (λ d. d.0) D) → AreDistinct names
  names_distinct distinct i j d ij lt e =
      by (text_cmp (defined_name D i) (defined_name D j)) refl (sym (get_or_default names i d 0 (omega arith)) ∙ e ∙ (get_or_default names j d 0 lt)) (omega (arith, ij, lt, h.count)) (omega (arith, lt, h.count)) (distinct i j [] ij (omega (arith, map-length (λ (x : Definition). x.0) D, lt, h.count)))
    where
      by : (o : Ordering) → text_cmp (defined_name D i) (defined_name D j) ≡ o → get_or names i 0 ≡ get_or names j 0 → i < length D → j < length D → defined_name D i ≢ defined_name D j → ⊥
      by Less f same a b ne = let l = (h.order i j a b).1 f in absurd (omega arith)
      by Equal f same a b ne = ne (text_exact (defined_name D i) (defined_name D j) f)
      by Greater f same a b ne = let l = (h.order j i b a).1 (text_total.antisymm (defined_name D j) (defined_name D i) ∙ ap ordering_reverse f) in absurd (omega arith)

-- ---- the order of definitions

-- definitions by depth and name
abbrev pub definition_cmp : List Definition → Definition → Definition → Ordering
definition_cmp D x y = place_cmp (definition_place D x) (definition_place D y)

pub definition_total : (D : List Definition) → IsTotalOrder (definition_cmp D)
definition_total D = on_total (definition_place D) place_total

-- if each class has a depth, the depths are those of the definitions
pub own_depths : (D : List Definition) (classes : List (List ℕ)) (depths : List (Option ℕ)) → AreClassParents D classes → AreDepths classes depths → All (λ o. IsSome o) depths → AreDepthsOf D depths
own_depths D classes depths h a some = record {
  count = a.count ∙ h.count;
  each = λ i lt. by i (get_or depths i None) (omega (arith, lt, h.count)) (a.is_depth i (omega (arith, lt, h.count))) (some i None (omega (arith, lt, h.count, a.count)));
}
  where
    by : (i : ℕ) (o : Option ℕ) → i < length classes → IsDepthOrNone classes i o → IsSome o → o ≡ Some (depth D (defined_name D i))
    by i None lt k s = absurd cc
    by i (Some e) lt k s = ap Some (sym (same_depth D classes h i e lt k))

module _ (D : List Definition) (depths : List (Option ℕ)) (names : List ℕ) (a : AreDepthsOf D depths) (n : AreNamesOf D names) (d : Definition) where
  -- the depth that a class is ordered by is that of its definition
  own_depth : (i : ℕ) → i < length D → unwrap_or (get_or depths i None) 0 ≡ depth D (defined_name D i)
  own_depth i lt = ap (λ o. unwrap_or o 0) (a.each i lt)

  own_name : (i : ℕ) → i < length D → defined_name D i ≡ (get_or D i d).0
  own_name i lt = get_or-map (λ (x : Definition). x.0) D i d [] lt

  -- a class before another is a definition before the other's
  lesser_place : (i j : ℕ) → i < length D → j < length D → class_cmp (class_place depths names i) (class_place depths names j) ≡ Less → definition_cmp D (get_or D i d) (get_or D j d) ≡ Less
  lesser_place i j lt less e =
      let m = own_name i lt in
      let k = own_name j less in
      let first : nat_cmp (unwrap_or (get_or depths i None) 0) (unwrap_or (get_or depths j None) 0) ≡ nat_cmp (depth D (get_or D i d).0) (depth D (get_or D j d).0) = λ t. nat_cmp ((own_depth i lt ∙ ap (depth D) m) t) ((own_depth j less ∙ ap (depth D) k) t) in
      let names_less : nat_cmp (get_or names i 0) (get_or names j 0) ≡ Less → text_cmp (get_or D i d).0 (get_or D j d).0 ≡ Less = λ f. (λ t. text_cmp (sym m t) (sym k t)) ∙ (n.order i j lt less).0 (ranked (get_or names i 0) (get_or names j 0) Less (sym f)) in
      less_along (nat_cmp (depth D (get_or D i d).0) (depth D (get_or D j d).0)) (nat_cmp (get_or names i 0) (get_or names j 0)) (text_cmp (get_or D i d).0 (get_or D j d).0) names_less
      (ap (λ o. ordering_then o (nat_cmp (get_or names i 0) (get_or names j 0))) (sym first) ∙ e)

  -- the definitions, mapped from the classes in order, are in order
  pub same_order : (order : List ℕ) → AreDistinct (map (λ x. x.0) D) → IsPermutation (range_with_len 0 (length D)) order → rises class_cmp (map (class_place depths names) order) ≡ true → map (λ i. get_or D i d) order ≡ in_class_order D
  same_order order distinct p r =
      let below : (i : ℕ) → Contains order i → i < length D = λ i c. range_below (length D) i (Contains-permutation order (range_with_len 0 (length D)) i (IsPermutation-sym (range_with_len 0 (length D)) order p) c) in
      let one : Rises (definition_cmp D) (map (λ i. get_or D i d) order) = Rises-along class_cmp (definition_cmp D) (class_place depths names) (λ i. get_or D i d) order (λ i j c e. lesser_place i j (below i c) (below j e)) (Rises-from_rises class_cmp class_total (map (class_place depths names) order) r) in
      let there : AreAmong (map (λ i. get_or D i d) order) (in_class_order D) = λ x c. let s = Contains-map_source (λ i. get_or D i d) order x c in
      in_class_order-has D x distinct (subst (Contains D) s.2 (Contains-get_or D s.0 d (below s.0 s.1))) in
      let back : AreAmong (in_class_order D) (map (λ i. get_or D i d) order) = λ x c. let s = in_class_order-only D x c in
      let member : Contains order s.0 = Contains-permutation (range_with_len 0 (length D)) order s.0 p (let lt : s.0 < length D = s.1 in Contains-range 0 (length D) s.0 (omega arith) (omega arith)) in
      subst (Contains (map (λ i. get_or D i d) order)) (get_or_default D s.0 d x s.1 ∙ s.2) (Contains-map (λ i. get_or D i d) order s.0 member) in
      Rises-same (definition_cmp D) (definition_total D) (map (λ i. get_or D i d) order) (in_class_order D) one (Rises-mapped place_cmp (definition_place D) (in_class_order D) (class_places-rise D)) there back
