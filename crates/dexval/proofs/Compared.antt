-- Lists that are equal member by member, once their numbers are remapped.
use Rattle.dexval.proofs.Common.{◌≡◌, ℕ, ◌<◌, ◌≤◌, List, [], ◌∷◌, length, take, map, get_or, refl, ap, sym, ◌∙◌, arith, take_all, get_or-map, length-map, Maps, NumberedValue, NumberedValues, NumberedElements, NoValue, ThenNext, NoElement, ThenNamed, values_of_list, elements_of_list, renumbered, renumbered_values, renumbered_elements, renumbered_element}
use Rattle.dexval.specs.Numbered as numbered
use Rattle.dexval.proofs.Renumbered.{values_renumbered, elements_renumbered}

-- ---- lists of the same items

module _ {X Y : Type 0} (of : X → Y) (xs ys : List X) where
  pub as_many : map of xs ≡ map of ys → length xs ≡ length ys
  as_many e = sym (length-map xs of) ∙ ap length e ∙ length-map ys of

  pub each_same : (i : ℕ) (x y : X) → i < length xs → i < length ys → x ≡ get_or xs i x → y ≡ get_or ys i y → map of xs ≡ map of ys → of x ≡ of y
  each_same i x y lt lt' is is' e = ap of is ∙ sym (get_or-map of xs i x (of y) lt) ∙ ap (λ zs. get_or zs i (of y)) e ∙ get_or-map of ys i y (of y) lt' ∙ sym (ap of is')

-- ---- lists that are equal once mapped

module _ {X Y Z : Type 0} (of : X → Y) (f g : Y → Z) (xs ys : List X) where
  pub same_count : map f (map of xs) ≡ map g (map of ys) → length xs ≡ length ys
  same_count e = sym (length-map xs of) ∙ sym (length-map (map of xs) f) ∙ ap length e ∙ length-map (map of ys) g ∙ length-map ys of

  pub same_at : (i : ℕ) (x y : X) → i < length xs → i < length ys → x ≡ get_or xs i x → y ≡ get_or ys i y → map f (map of xs) ≡ map g (map of ys) → f (of x) ≡ g (of y)
  same_at i x y lt lt' is is' e =
      let inside : i < length (map of xs) = omega (arith, length-map xs of) in
      let inside' : i < length (map of ys) = omega (arith, length-map ys of) in
      let inside'' : i < length (map g (map of ys)) = omega (arith, length-map (map of ys) g) in
      sym (get_or-map f (map of xs) i (of x) (g (of y)) inside ∙ ap f (get_or-map of xs i x (of x) lt) ∙ ap (λ z. f (of z)) (sym is)) ∙ ap (λ zs. get_or zs i (g (of y))) e ∙ (get_or-map g (map of ys) i (of y) (g (of y)) inside' ∙ ap g (get_or-map of ys i y (of y) lt') ∙ ap (λ z. g (of z)) (sym is'))

  pub same_all : (i : ℕ) → length xs ≤ i → length ys ≤ i → map f (map of (take i xs)) ≡ map g (map of (take i ys)) → map f (map of xs) ≡ map g (map of ys)
  same_all i end end' e = ap (λ zs. map f (map of zs)) (sym (take_all i xs end)) ∙ e ∙ ap (λ zs. map g (map of zs)) (take_all i ys end')

-- ---- values

abbrev list_of_values : NumberedValues → List NumberedValue
list_of_values NoValue = []
list_of_values (ThenNext x xs) = x ∷ list_of_values xs

values_listed : (xs : List NumberedValue) → list_of_values (values_of_list xs) ≡ xs
values_listed [] = refl
values_listed (x ∷ xs) = ap (λ l. x ∷ l) (values_listed xs)

-- the values in an array
abbrev list_in_array : NumberedValue → List NumberedValue
list_in_array (numbered.Array values) = list_of_values values
list_in_array (numbered.Plain literal) = []
list_in_array (numbered.Named kind i) = []
list_in_array (numbered.Annotated typ elements) = []

pub values_in_array : (xs ys : List NumberedValue) → numbered.Array (values_of_list xs) ≡ numbered.Array (values_of_list ys) → xs ≡ ys
values_in_array xs ys e = sym (values_listed xs) ∙ ap list_in_array e ∙ values_listed ys

-- equal values are equal as lists
pub values_same : (r q : Maps) (xs ys : List NumberedValue) → renumbered_values r (values_of_list xs) ≡ renumbered_values q (values_of_list ys) → map (renumbered r) xs ≡ map (renumbered q) ys
values_same r q xs ys e = sym (values_listed (map (renumbered r) xs)) ∙ ap list_of_values (values_renumbered r xs ∙ e ∙ sym (values_renumbered q ys)) ∙ values_listed (map (renumbered q) ys)

-- and conversely
pub same_values : (r q : Maps) (xs ys : List NumberedValue) → map (renumbered r) xs ≡ map (renumbered q) ys → renumbered_values r (values_of_list xs) ≡ renumbered_values q (values_of_list ys)
same_values r q xs ys e = sym (values_renumbered r xs) ∙ ap values_of_list e ∙ values_renumbered q ys

-- ---- elements

abbrev list_of_elements : NumberedElements → List (ℕ × NumberedValue)
list_of_elements NoElement = []
list_of_elements (ThenNamed name x es) = (name, x) ∷ list_of_elements es

elements_listed : (xs : List (ℕ × NumberedValue)) → list_of_elements (elements_of_list xs) ≡ xs
elements_listed [] = refl
elements_listed ((name, x) ∷ xs) = ap (λ l. (name, x) ∷ l) (elements_listed xs)

-- equal elements are equal as lists
pub same_listed : (xs ys : List (ℕ × NumberedValue)) → elements_of_list xs ≡ elements_of_list ys → xs ≡ ys
same_listed xs ys e = sym (elements_listed xs) ∙ ap list_of_elements e ∙ elements_listed ys

pub elements_same : (r q : Maps) (xs ys : List (ℕ × NumberedValue)) → renumbered_elements r (elements_of_list xs) ≡ renumbered_elements q (elements_of_list ys) → map (renumbered_element r) xs ≡ map (renumbered_element q) ys
elements_same r q xs ys e = sym (elements_listed (map (renumbered_element r) xs)) ∙ ap list_of_elements (elements_renumbered r xs ∙ e ∙ sym (elements_renumbered q ys)) ∙ elements_listed (map (renumbered_element q) ys)

pub same_elements : (r q : Maps) (xs ys : List (ℕ × NumberedValue)) → map (renumbered_element r) xs ≡ map (renumbered_element q) ys → renumbered_elements r (elements_of_list xs) ≡ renumbered_elements q (elements_of_list ys)
same_elements r q xs ys e = sym (elements_renumbered r xs) ∙ ap elements_of_list e ∙ elements_renumbered q ys
