-- Nested values and annotations that are checked: each item that a reader would read is there.
use Rattle.dexval.proofs.Common.{◌≡◌, ◌≢◌, ℕ, ◌+◌, ◌-◌, ◌<◌, ◌≤◌, List, [], ◌∷◌, ◌++◌, length, refl, ap, arith, slice_index, Uleb128At, value_depth, Mentions, ArePools, HasValue, HasArray, HasElement, HasElements, HasAnnotation, HasPools, NoArrayAt, NoElementsAt, NoElementAt, NumberedValue, Array, Annotated, values_of_list, elements_of_list, value_in, NoValueAt, IsReadAt, numbered_weight, numbered_values_weight, numbered_elements_weight}
use Rattle.dexval.proofs.ElementsRead.{HaveReadOf, no_element_read, one_element_more, no_next_element, all_elements_read, annotation_read, array_encoded, annotation_encoded}
use Rattle.dexval.proofs.Members.{count_of_list}
use Rattle.dexval.proofs.ValuesRead.{HaveRead, none_read, one_more, no_next, no_values, all_read, array_read}

-- a value that holds no other value weighs 9
flat_weight : (m : Mentions) (x : NumberedValue) → value_depth (value_in m x) ≤ 0 → numbered_weight x ≡ 9
flat_weight m (Array xs) flat = absurd (omega (arith, flat))
flat_weight m (Annotated t es) flat = absurd (omega (arith, flat))
flat_weight m x flat = refl

pub flat_checked : (b : List ℕ) (o : ℕ) (m : Mentions) (depth : ℕ) (x : NumberedValue) (n : ℕ) → IsReadAt b o m 0 x n → HasValue b o m depth n 9
flat_checked b o m depth x n h = record { value = x; read = record { known = h.known; encodes = h.encodes; shallow = omega (arith, h.shallow) }; weighs = flat_weight m x h.shallow }

-- an array and an annotation as values
module _ (b : List ℕ) (o : ℕ) (m : Mentions) (depth : ℕ) (pools : ArePools b m) where
  pub array_checked : (count n weight : ℕ) → o < length b → slice_index b o ≡ 28 → depth ≢ 0 → HasArray b (o + 1) m (depth - 1) count n weight → HasValue b o m depth (1 + n) (6 + weight)
  array_checked count n weight lt is some h = record { value = Array h.values; read = array_encoded b o depth m pools h.values n lt is some h.read; weighs = ap (λ (k : ℕ). 6 + k) h.weighs }

  pub annotation_checked : (typ n weight : ℕ) → o < length b → slice_index b o ≡ 29 → depth ≢ 0 → HasAnnotation b (o + 1) m (depth - 1) typ n weight → HasValue b o m depth (1 + n) weight
  annotation_checked typ n weight lt is some h = record { value = Annotated typ h.elements; read = annotation_encoded b o depth m pools typ h.elements n lt is some h.read; weighs = h.weighs }

-- ---- values

-- the weight of one more value
pub values_weight_then : (xs : List NumberedValue) (x : NumberedValue) → numbered_values_weight (values_of_list (xs ++ x ∷ [])) ≡ numbered_values_weight (values_of_list xs) + numbered_weight x
values_weight_then [] x = omega arith
values_weight_then (y ∷ ys) x = omega (arith, values_weight_then ys x)

-- the first i of `count` values were checked
pub record ValuesChecked (b : List ℕ) (o : ℕ) (m : Mentions) (depth count i k weight : ℕ) : Type 0 where
  pub values : List NumberedValue
  pub so_far : HaveRead b o m depth count i values k
  pub weighed : numbered_values_weight (values_of_list values) ≡ weight

module _ (b : List ℕ) (m : Mentions) (o depth count : ℕ) where
  pub no_value_yet : ValuesChecked b o m depth count 0 0 0
  no_value_yet = record { values = []; so_far = none_read b m o depth count; weighed = refl }

  pub one_value_checked : (i k weight n heavy : ℕ) → i < count → ValuesChecked b o m depth count i k weight → HasValue b (o + k) m depth n heavy → ValuesChecked b o m depth count (i + 1) (k + n) (weight + heavy)
  one_value_checked i k weight n heavy lt h r = record {
    values = h.values ++ r.value ∷ [];
    so_far = one_more b m o depth count i h.values k r.value n lt h.so_far r.read;
    weighed = omega (arith, values_weight_then h.values r.value, h.weighed, r.weighs);
  }

-- if the next is no value, there is no array
pub no_value_next : (b : List ℕ) (m : Mentions) (o depth count head i k weight : ℕ) → Uleb128At b o count head → i < count → ValuesChecked b (o + head) m depth count i k weight → NoValueAt b (o + head + k) depth → NoArrayAt b o depth
no_value_next b m o depth count head i k weight number lt h none = no_values b m o depth count head number (no_next b m (o + head) depth count i h.values k lt h.so_far none)

-- all were checked
pub values_checked : (b : List ℕ) (m : Mentions) (o depth count head i k weight : ℕ) → Uleb128At b o count head → i ≡ count → ValuesChecked b (o + head) m depth count i k weight → HasArray b o m depth count (head + k) weight
values_checked b m o depth count head i k weight number all h = record {
  values = values_of_list h.values;
  read = array_read b m o depth count head (values_of_list h.values) k number (all_read b m (o + head) depth count i h.values k all h.so_far);
  counted = omega (arith, count_of_list h.values, h.so_far.number, all);
  weighs = h.weighed;
}

-- ---- elements

-- the weight of one more element
pub elements_weight_then : (es : List (ℕ × NumberedValue)) (e : ℕ × NumberedValue) → numbered_elements_weight (elements_of_list (es ++ e ∷ [])) ≡ numbered_elements_weight (elements_of_list es) + (5 + numbered_weight e.1)
elements_weight_then [] (n, x) = omega arith
elements_weight_then ((m, y) ∷ es) e = omega (arith, elements_weight_then es e)

-- the first i of `count` elements were checked, and the numbers of their names are below `least`
pub record ElementsChecked (b : List ℕ) (o : ℕ) (m : Mentions) (depth count i least k weight : ℕ) : Type 0 where
  pub elements : List (ℕ × NumberedValue)
  pub so_far : HaveReadOf b o m depth count i least elements k
  pub weighed : numbered_elements_weight (elements_of_list elements) ≡ weight

module _ (b : List ℕ) (m : Mentions) (file : HasPools b m) (o depth count : ℕ) where
  pub no_element_yet : ElementsChecked b o m depth count 0 0 0 0
  no_element_yet = record { elements = []; so_far = no_element_read b m file o depth count; weighed = refl }

  pub one_element_checked : (i least k weight name n heavy : ℕ) → i < count → ElementsChecked b o m depth count i least k weight → HasElement b (o + k) m depth least name n heavy → ElementsChecked b o m depth count (i + 1) (name + 1) (k + n) (weight + heavy)
  one_element_checked i least k weight name n heavy lt h r =
      let e : ℕ × NumberedValue = (name, r.value) in
      record {
        elements = h.elements ++ e ∷ [];
        so_far = one_element_more b m file o depth count i least h.elements k e n lt h.so_far r.read;
        weighed = omega (arith, elements_weight_then h.elements e, h.weighed, r.weighs);
      }

  pub no_element_next : (i least k weight : ℕ) → i < count → ElementsChecked b o m depth count i least k weight → NoElementAt b (o + k) depth least → NoElementsAt b o depth count
  no_element_next i least k weight lt h none = no_next_element b m file o depth count i least h.elements k lt h.so_far none

  pub elements_checked : (i least k weight : ℕ) → i ≡ count → ElementsChecked b o m depth count i least k weight → HasElements b o m depth count k weight
  elements_checked i least k weight all h = record {
    elements = elements_of_list h.elements;
    read = all_elements_read b m file o depth count i least h.elements k all h.so_far;
    weighs = h.weighed;
  }

-- an annotation of a type and elements
pub annotation_of_elements : (b : List ℕ) (m : Mentions) (file : HasPools b m) (o depth index head count second k weight : ℕ) → Uleb128At b o index head → index < length m.types → Uleb128At b (o + head) count second
    → HasElements b (o + head + second) m depth count k weight → HasAnnotation b o m depth index (head + second + k) (12 + weight)
annotation_of_elements b m file o depth index head count second k weight type known number h = record {
  elements = h.elements;
  read = annotation_read b m file o depth index head count second h.elements k type known number h.read;
  weighs = ap (λ (n : ℕ). 12 + n) h.weighs;
}
