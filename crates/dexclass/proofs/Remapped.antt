-- Numbers of texts that are remapped, and what they denote.
use Rattle.dexclass.proofs.Common.{◌≡◌, ℕ, ◌<◌, true, List, [], ◌++◌, length, map, get_or, Option, Some, None, option_to_list, refl, ap, subst, IsSome, All, option_map, All-head, All-map, Text, IsAt, MapsTo, image, map_both, some_of, sym, unwrap_or, rises, text_cmp, text_total, one_place}
use Rattle.dexclass.specs.{image_or_same}

-- ---- the same text

module _ (from to : List Text) (images : List (Option ℕ)) (h : MapsTo from to images) where
  -- a number that has an image maps to the same text
  pub remapped_at : (i : ℕ) → IsSome (image images i) → IsAt to (image_or_same images i) (get_or from i [])
  remapped_at i some =
      let s = some_of (image images i) some in
      subst (λ (k : ℕ). IsAt to k (get_or from i [])) (sym (ap (λ o. unwrap_or o i) s.1)) (h.same i s.0 [] s.1)

  pub remapped_is : (i : ℕ) → IsSome (image images i) → get_or to (image_or_same images i) [] ≡ get_or from i []
  remapped_is i some = (remapped_at i some).is []

  -- so do numbers
  pub all_remapped : (is : List ℕ) → All (λ i. IsSome (image images i)) is → map (λ i. get_or to i []) (map (image_or_same images) is) ≡ map (λ i. get_or from i []) is
  all_remapped is all = map_both (image_or_same images) (λ i. get_or to i []) (λ i. get_or from i []) is (λ k d lt. remapped_is (get_or is k d) (all k d lt))

  pub optional_remapped : (o : Option ℕ) → All (λ i. IsSome (image images i)) (option_to_list o) → option_map (λ i. get_or to i []) (option_map (image_or_same images) o) ≡ option_map (λ i. get_or from i []) o
  optional_remapped None all = refl
  optional_remapped (Some i) all = ap Some (remapped_is i (All-head (λ i. IsSome (image images i)) i [] all))

  -- they are numbers of the other list
  pub all_within : (is : List ℕ) → All (λ i. IsSome (image images i)) is → All (λ i. i < length to) (map (image_or_same images) is)
  all_within is all = All-map (λ i. i < length to) (image_or_same images) is (λ k d lt. (remapped_at (get_or is k d) (all k d lt)).within)

-- a number remapped, if there is one
pub optional_numbers : (f : ℕ → ℕ) (o : Option ℕ) → map f (option_to_list o) ≡ option_to_list (option_map f o)
optional_numbers f None = refl
optional_numbers f (Some i) = refl

-- and others after it
pub numbers_after : (f : ℕ → ℕ) (o : Option ℕ) (is : List ℕ) → map f (option_to_list o ++ is) ≡ option_to_list (option_map f o) ++ map f is
numbers_after f None is = refl
numbers_after f (Some i) is = refl

-- two numbers have different texts
pub one_at : (xs : List Text) → rises text_cmp xs ≡ true → (i j : ℕ) → i < length xs → j < length xs → get_or xs i [] ≡ get_or xs j [] → i ≡ j
one_at xs rising i j li lj e = one_place text_cmp text_total xs rising i j [] li lj e
