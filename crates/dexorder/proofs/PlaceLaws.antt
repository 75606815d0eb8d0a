-- Places of classes that are put in order.
use Rattle.dexorder.proofs.Common.{◌≡◌, ◌≢◌, ℕ, suc, ◌<◌, Bool, true, false, eqb, List, [], ◌∷◌, length, map, get_or, Option, Ordering, Less, Equal, Greater, refl, sym, ap, ◌∙◌, subst, arith, All, add-one, IsDistinct, range_with_len, IsPermutation, IsSorted, nat_cmp, ordering_then, ordering_reverse, is_lt, IsTotalOrder, nat_cmp_total, on_total, then_total, ne_eqb, eqb-false, get_or-map, get_or-map-range_with_len, length-map-range_with_len, All-head, All-tail, All-map, IsPermutation-map, All-permutation, AreDistinct, rises, and_both, map-length, nat_eq_equiv, exact_unsigned, both_tie}
use Rattle.std.proofs.lemmas.Map.Keys.{IsDistinct-from_apart, IsDistinct-IsPermutation, apart_from_distinct}
use Rattle.dexorder.specs.declared.order.Place.{Place}
use Rattle.dexorder.specs.{class_place, class_cmp, place_of}

-- ---- orders

-- a list rises if each member is less than the next
rises_adjacent : {K : Type 0} (R : K → K → Ordering) (xs : List K) → ((k : ℕ) (d : K) → suc k < length xs → R (get_or xs k d) (get_or xs (suc k) d) ≡ Less) → rises R xs ≡ true
rises_adjacent R (x ∷ y ∷ ys) h =
    and_both (is_lt (R x y)) (rises R (y ∷ ys)) (ap is_lt (h 0 x (omega arith))) (rises_adjacent R (y ∷ ys) (λ k d lt. h (suc k) d (omega arith)))
rises_adjacent R v h = refl

pub class_total : IsTotalOrder class_cmp
class_total = then_total (on_total (λ (p : ℕ × ℕ). p.0) nat_cmp_total) (on_total (λ (p : ℕ × ℕ). p.1) nat_cmp_total)

-- if the second order decides, the third does not count
third_unasked : (a b c : Ordering) → b ≢ Equal → ordering_then a (ordering_then b c) ≡ ordering_then a b
third_unasked Equal Equal c h = absurd (h refl)
third_unasked x v c h = refl

-- neither less nor equal is greater
greater : (o : Ordering) → is_lt o ≡ false → o ≢ Equal → o ≡ Greater
greater Less e h = absurd cc
greater Equal e h = absurd (h refl)
greater Greater e h = refl

-- ---- places

-- the depth and the name
pair : Place → ℕ × ℕ
pair p = (p.depth, p.name)

-- by depth, by name, and by number
abbrev place_cmp : Place → Place → Ordering
place_cmp x y = ordering_then (nat_cmp x.depth y.depth) (ordering_then (nat_cmp x.name y.name) (nat_cmp x.class y.class))

-- of two places with different names, the one that is not greater is less
pair_less : (x y : Place) → x.name ≢ y.name → is_lt (place_cmp y x) ≡ false → class_cmp (pair x) (pair y) ≡ Less
unfolding pair
pair_less x y ne e =
    let apart : nat_cmp y.name x.name ≢ Equal = λ tie. ne (sym (exact_unsigned y.name x.name tie)) in
    class_total.antisymm (pair x) (pair y) ∙ ap ordering_reverse (greater (class_cmp (pair y) (pair x)) (ap is_lt (sym (third_unasked (nat_cmp y.depth x.depth) (nat_cmp y.name x.name) (nat_cmp y.class x.class) apart)) ∙ e) (λ tie. apart (both_tie (nat_cmp y.depth x.depth) (nat_cmp y.name x.name) tie).1))

-- the test of two names
abbrev same_name : Place → Place → Bool
same_name x y = eqb x.name y.name

module _ (depths : List (Option ℕ)) (names : List ℕ) where
  -- the place is that of its class
  abbrev IsPlace : Place → Type 0
  IsPlace p = p ≡ place_of depths names p.class

  classes_back : (ks : List ℕ) → map (λ (p : Place). p.class) (map (place_of depths names) ks) ≡ ks
  classes_back [] = refl
  classes_back (k ∷ ks) = ap (λ ms. k ∷ ms) (classes_back ks)

  -- so the pairs are the pairs of the classes
  pairs_of : (ys : List Place) → All IsPlace ys → map (class_place depths names) (map (λ (p : Place). p.class) ys) ≡ map pair ys
  unfolding pair
  pairs_of [] h = refl
  pairs_of (y ∷ ys) h =
      λ i. (ap pair (sym (All-head IsPlace y ys h))) i ∷ (pairs_of ys (All-tail IsPlace y ys h)) i

  -- all places, in some order
  pub classes_permuted : (n : ℕ) (xs ys : List Place) → xs ≡ map (place_of depths names) (range_with_len 0 n) → IsPermutation xs ys → IsPermutation (range_with_len 0 n) (map (λ (p : Place). p.class) ys)
  classes_permuted n xs ys e h =
      let all : map (λ (p : Place). p.class) xs ≡ range_with_len 0 n = ap (map (λ (p : Place). p.class)) e ∙ classes_back (range_with_len 0 n) in
      subst (λ ks. IsPermutation ks (map (λ (p : Place). p.class) ys)) all (IsPermutation-map (λ (p : Place). p.class) xs ys h)

  -- the names of places are distinct
  names_apart : (n : ℕ) → length names ≡ n → AreDistinct names → IsDistinct same_name (map (place_of depths names) (range_with_len 0 n))
  names_apart n len distinct =
      IsDistinct-from_apart same_name (map (place_of depths names) (range_with_len 0 n)) (λ i j d ij lt.
      let less : j < n = omega (arith, lt, length-map-range_with_len (place_of depths names) 0 n) in
      (λ k. same_name ((get_or-map-range_with_len (place_of depths names) 0 n i i d (omega arith) (omega arith)) k) ((get_or-map-range_with_len (place_of depths names) 0 n j j d less (omega arith)) k)) ∙ (ne_eqb (get_or names i 0) (get_or names j 0) (distinct i j 0 ij (omega (arith, less, len)))))

  -- in order they rise
  pub classes_rise : (n : ℕ) (xs ys : List Place) → length names ≡ n → AreDistinct names → xs ≡ map (place_of depths names) (range_with_len 0 n) → IsPermutation xs ys → IsSorted place_cmp ys → rises class_cmp (map (class_place depths names) (map (λ (p : Place). p.class) ys)) ≡ true
  classes_rise n xs ys len distinct e h sorted =
      let apart : IsDistinct same_name ys = IsDistinct-IsPermutation same_name (λ x y. nat_eq_equiv.symm x.name y.name) xs ys h (subst (IsDistinct same_name) (sym e) (names_apart n len distinct)) in
      let none : Place = record { depth = 0; name = 0; class = 0 } in
      let next_rises : (k : ℕ) (d : ℕ × ℕ) → suc k < length (map pair ys) → class_cmp (get_or (map pair ys) k d) (get_or (map pair ys) (suc k) d) ≡ Less =
      λ k d lt.
      let less : suc k < length ys = omega (arith, lt, map-length pair ys) in
      let following : is_lt (place_cmp (get_or ys (suc k) none) (get_or ys k none)) ≡ false = subst (λ j. is_lt (place_cmp (get_or ys j none) (get_or ys k none)) ≡ false) (add-one k) (sorted k none (omega arith) (omega arith)) in
      (λ i. class_cmp ((get_or-map pair ys k none d (omega arith)) i) ((get_or-map pair ys (suc k) none d less) i)) ∙ pair_less (get_or ys k none) (get_or ys (suc k) none) (eqb-false (get_or ys k none).name (get_or ys (suc k) none).name (apart_from_distinct same_name ys k (suc k) none apart (omega arith) less)) following in
      ap (rises class_cmp) (pairs_of ys (All-permutation IsPlace xs ys h (subst (All IsPlace) (sym e) (All-map IsPlace (place_of depths names) (range_with_len 0 n) (λ k d lt. refl))))) ∙ rises_adjacent class_cmp (map pair ys) next_rises
