-- Remapped numbers keep their order, and stay apart.
use Rattle.dexmembers.proofs.Common.{◌≡◌, ℕ, ◌<◌, true, List, length, map, get_or, Option, Some, refl, sym, ap, ◌∙◌, subst, arith, inl, inr, unwrap_or, All, Contains, nat_cmp, nat_cmp_is, Less, Equal, Greater, cases_order, get_or-map, length-map, Contains-get_or, All-get_or, rises, ShareNone, image, KeepsOrder, rises-map}

-- the image of a number; a number without an image stays
abbrev pub end : List (Option ℕ) → ℕ → ℕ
end images i = unwrap_or (image images i) i

-- the number has an image
abbrev pub Goes : List (Option ℕ) → ℕ → Type 0
Goes images i = (j : ℕ) × (image images i ≡ Some j)

end_is : (images : List (Option ℕ)) (i : ℕ) (h : Goes images i) → end images i ≡ h.0
end_is images i h = ap (λ (o : Option ℕ). unwrap_or o i) h.1

module _ (images : List (Option ℕ)) (keeps : KeepsOrder images) where
  less_kept : (i j : ℕ) → Goes images i → Goes images j → i < j → end images i < end images j
  less_kept i j h k lt =
      let z : h.0 < k.0 = keeps i j h.0 k.0 lt h.1 k.1 in
      subst (λ a. a < end images j) (sym (end_is images i h)) (subst (λ b. h.0 < b) (sym (end_is images j k)) z)

  order_kept : (i j : ℕ) → Goes images i → Goes images j → nat_cmp i j ≡ nat_cmp (end images i) (end images j)
  order_kept i j h k = elim (cases_order i j) as (λ _. nat_cmp i j ≡ nat_cmp (end images i) (end images j)) [
    | inl same ↦ ap (λ z. nat_cmp i z) (sym same) ∙ sym (nat_cmp_is i i Equal refl) ∙ nat_cmp_is (end images i) (end images j) Equal (ap (end images) same)
    | inr apart ↦ elim apart as (λ _. nat_cmp i j ≡ nat_cmp (end images i) (end images j)) [
      | inl less ↦ sym (nat_cmp_is i j Less less) ∙ nat_cmp_is (end images i) (end images j) Less (less_kept i j h k less)
      | inr more ↦ sym (nat_cmp_is i j Greater more) ∙ nat_cmp_is (end images i) (end images j) Greater (less_kept j i k h more)
    ]
  ]

  one_start : (i j : ℕ) → Goes images i → Goes images j → end images i ≡ end images j → i ≡ j
  one_start i j h k e = elim (cases_order i j) as (λ _. i ≡ j) [
    | inl same ↦ same
    | inr apart ↦ elim apart as (λ _. i ≡ j) [
      | inl less ↦ let z = less_kept i j h k less in absurd (omega (arith, z, e))
      | inr more ↦ let z = less_kept j i k h more in absurd (omega (arith, z, e))
    ]
  ]

  -- the images of numbers that rise, rise
  pub rise_kept : (is : List ℕ) → All (Goes images) is → rises nat_cmp is ≡ true → rises nat_cmp (map (end images) is) ≡ true
  rise_kept is all h = sym (rises-map nat_cmp nat_cmp (end images) (Goes images) order_kept is all) ∙ h

  -- two lists without a common number have images without a common number
  pub apart_kept : (is js : List ℕ) → All (Goes images) is → All (Goes images) js → ShareNone is js → ShareNone (map (end images) is) (map (end images) js)
  apart_kept is js all all' h k (p, lt, e) (q, lt', e') =
      let inside : p < length is = omega (arith, lt, length-map is (end images)) in
      let inside' : q < length js = omega (arith, lt', length-map js (end images)) in
      let first : end images (get_or is p 0) ≡ k = sym (get_or-map (end images) is p 0 k inside) ∙ e in
      let second : end images (get_or js q 0) ≡ k = sym (get_or-map (end images) js q 0 k inside') ∙ e' in
      let one = one_start (get_or is p 0) (get_or js q 0) (All-get_or (Goes images) is p 0 inside all) (All-get_or (Goes images) js q 0 inside' all') (first ∙ sym second) in
      h (get_or is p 0) (Contains-get_or is p 0 inside) (subst (Contains js) (sym one) (Contains-get_or js q 0 inside'))
