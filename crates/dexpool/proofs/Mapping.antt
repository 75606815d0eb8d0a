-- Images of each number are a map of numbers.
use Rattle.dexpool.proofs.Common.{◌≡◌, ℕ, ◌<◌, true, List, length, get_or, map, Option, Some, None, sym, ap, ◌∙◌, subst, arith, inl, inr, slice_index, IsTotalOrder, Ordering, Less, cases_lt, cases_order, get_or-map, get_or_past, length-map, rises, Rises-from_rises, Rises-places, irreflexive, asymmetric, IsAt, MapsTo, image, Moves}
use Rattle.dexpool.proofs.Unions.{some}

one_value : (x y : ℕ) → Some x ≡ Some y → x ≡ y
one_value x y e = cc

no_value : {B : Type 0} (y : ℕ) (o : Option ℕ) → o ≡ Some y → o ≡ None → B
no_value y o e f = absurd (let g : Some y ≡ None = sym e ∙ f in cc)

module _ {X : Type 0} (R : X → X → Ordering) (o : IsTotalOrder R) (from to : List X) (from_rises : rises R from ≡ true) (to_rises : rises R to ≡ true) (images : List ℕ) (m : Moves from to images) where
  -- the image of a number that has one
  image_is : (i j : ℕ) → image (map Some images) i ≡ Some j → (i < length from) × (slice_index images i ≡ j)
  image_is i j e = elim (cases_lt i (length images)) [
    | inl lt ↦ (omega (arith, m.count, lt), one_value (slice_index images i) j (sym (get_or-map {X = ℕ} {Y = Option ℕ} (λ k. Some k) images i 0 None lt) ∙ e))
    | inr past ↦ no_value j (image (map Some images) i) e (get_or_past (map Some images) i None (omega (arith, past, length-map images (λ (k : ℕ). Some k))))
  ]

  -- the member at the image
  encodes : (i j : ℕ) (d : X) → image (map Some images) i ≡ Some j → IsAt to j (get_or from i d)
  encodes i j d e = let at = image_is i j e in subst (λ k. IsAt to k (get_or from i d)) at.1 (m.same i d at.0)

  -- no number is without an image
  total : (i : ℕ) → i < length from → image (map Some images) i ≡ None → ⊥
  total i lt e = no_value (slice_index images i) (image (map Some images) i) (get_or-map {X = ℕ} {Y = Option ℕ} (λ k. Some k) images i 0 None (omega (arith, m.count, lt))) e

  in_order : (h i j k : ℕ) → h < i → image (map Some images) h ≡ Some j → image (map Some images) i ≡ Some k → j < k
  in_order h i j k before e f =
      let first = image_is h j e in
      let second = image_is i k f in
      let d = some from i second.0 in
      let x = get_or from h d in
      let y = get_or from i d in
      let less : R x y ≡ Less = Rises-places R o from h i d (Rises-from_rises R o from from_rises) before second.0 in
      let at_x = encodes h j d e in
      let at_y = encodes i k d f in
      elim (cases_order j k) as (λ _. j < k) [
        | inl same ↦ absurd (irreflexive R o x y (sym (at_x.is d) ∙ ap (λ n. get_or to n d) same ∙ at_y.is d) less)
        | inr apart ↦ elim apart as (λ _. j < k) [
          | inl lt ↦ lt
          | inr gt ↦ absurd (asymmetric R o x y less
              (sym (λ i. R (at_y.is d i) (at_x.is d i)) ∙ Rises-places R o to k j d (Rises-from_rises R o to to_rises) gt at_x.within))
        ]
      ]

  pub maps_to : MapsTo from to (map Some images)
  maps_to = record { count = length-map images (λ (k : ℕ). Some k) ∙ m.count; same = encodes; none = λ i d lt e c. total i lt e; rising = in_order }
