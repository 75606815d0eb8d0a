-- Classes in the order of their definitions.
use Rattle.dexclass.proofs.Common.{◌≡◌, ℕ, ◌<◌, true, List, [], length, get_or, map, refl, sym, ap, ◌∙◌, subst, arith, Option, Some, None, All, Contains, range_with_len, length-map, get_or-map, get_or_default, length-range_with_len, All-contains, Contains-get_or, rises, AreDistinct, Text, Definition, IsAcyclic, depth, in_class_order, Mentions, Rises-from_rises, AreDistinct-from_Rises, Contains-map, Contains-map_source, AreDistinct-map_source, AreDepths, AreClassParents, AreDepthsOf, AreNamesOf, all_known, map_both, type_at}
use Rattle.std.specs.List.Sorted.{IsPermutation}
use Rattle.std.proofs.lemmas.List.Sorted.{Contains-permutation, IsPermutation-sym, length_permutation}
use Rattle.dexorder.specs.Places.{class_place, class_cmp}
use Rattle.dexorder.proofs.PlaceLaws.{class_total}
use Rattle.dexorder.proofs.DefinitionOrder.{range_below, own_depths, same_order}
use Rattle.dexclass.specs.{NumberedClass, definition_of, no_class, name_number, IsHierarchy, AreNamed, AreDepthsByName}
use Rattle.dexclass.proofs.Classed.{name_is, one_number, classes_of}
use Rattle.dexclass.proofs.NamesOf.{names_of}
use Rattle.dexclass.proofs.Places.{parents_are}

module _ (m : Mentions) (cs : List NumberedClass) (named : AreNamed m cs) where
  abbrev D : List Definition
  D = map (definition_of m) cs

  -- definitions of two classes have two names
  pub names_apart : AreDistinct (map (λ (d : Definition). d.0) D)
  names_apart i j d less lt e =
      let few : j < length cs = omega (arith, lt, length-map D (λ (x : Definition). x.0), length-map cs (definition_of m)) in
      let first : i < length cs = omega (arith, few, less) in
      let ei : get_or (map (λ (x : Definition). x.0) D) i d ≡ type_at m (name_number cs i) = get_or_default (map (λ (x : Definition). x.0) D) i d [] (omega (arith, less, lt)) ∙ name_is m cs named i first in
      named.distinct i j 0 less (omega (arith, few, length-map cs (λ (c : NumberedClass). c.name)))
      (get_or-map (λ (c : NumberedClass). c.name) cs i no_class 0 first ∙ (one_number m cs named _ _ (named.names i first) (named.names j few) (sym ei ∙ e ∙ (get_or_default (map (λ (x : Definition). x.0) D) j d [] lt ∙ name_is m cs named j few))) ∙ sym (get_or-map (λ (c : NumberedClass). c.name) cs j no_class 0 few))

  -- the classes at places are the definitions there
  arranged_are : (order : List ℕ) → All (λ i. i < length cs) order → map (definition_of m) (map (λ i. get_or cs i no_class) order) ≡ map (λ i. get_or D i (definition_of m no_class)) order
  arranged_are order within = map_both (λ i. get_or cs i no_class) (definition_of m) (λ i. get_or D i (definition_of m no_class)) order (λ k d lt. sym (get_or-map (definition_of m) cs (get_or order k d) no_class (definition_of m no_class) (within k d lt)))

  module _ (H : List (List ℕ)) (h : IsHierarchy cs H) where
    pub are_classes : AreClassParents D H
    are_classes = subst (AreClassParents D) (sym (parents_are cs H h)) (classes_of m cs named h.by_type h.are)

    -- the depths that were found are those of the definitions
    pub depths_are : (depths : List (Option ℕ)) → AreDepths H depths → IsAcyclic D → AreDepthsOf D depths
    depths_are depths a acyclic = own_depths D H depths are_classes a (all_known D H are_classes depths a acyclic)

  -- depths that are known by name are those of the definitions
  pub known_are : (by_name : List (Option ℕ)) → AreDepthsByName m D by_name → AreDepthsOf D (map (λ c. get_or by_name c.name None) cs)
  known_are by_name h = record {
    count = length-map cs (λ (c : NumberedClass). get_or by_name c.name None) ∙ sym (length-map cs (definition_of m));
    each = λ i lt.
        let few : i < length cs = omega (arith, lt, length-map cs (definition_of m)) in
        get_or-map (λ (c : NumberedClass). get_or by_name c.name None) cs i no_class None few
        ∙ h.each (definition_of m (get_or cs i no_class)) (Contains-map (definition_of m) cs (get_or cs i no_class) (Contains-get_or cs i no_class few)) (name_number cs i) (named.names i few) refl
        ∙ ap (λ (t : Text). Some (depth D t)) (sym (name_is m cs named i few));
  }

  -- each name is that of a type
  pub names_within : All (λ c. c.name < length m.types) cs
  names_within i d lt = omega (arith, named.names i lt, ap (λ (c : NumberedClass). c.name) (get_or_default cs i d no_class lt))

  -- each name has a place there
  pub known_within : (by_name : List (Option ℕ)) → AreDepthsByName m D by_name → All (λ c. c.name < length by_name) cs
  known_within by_name h i d lt = omega (arith, named.names i lt, h.count, ap (λ (c : NumberedClass). c.name) (get_or_default cs i d no_class lt))

  module _ (depths : List (Option ℕ)) (names order : List ℕ) (e : names ≡ map (λ c. c.name) cs) (p : IsPermutation (range_with_len 0 (length names)) order) (r : rises class_cmp (map (class_place depths names) order) ≡ true) where
    -- no place is there twice
    pub order_distinct : AreDistinct order
    order_distinct = AreDistinct-map_source (class_place depths names) order (AreDistinct-from_Rises class_cmp class_total (map (class_place depths names) order) (Rises-from_rises class_cmp class_total (map (class_place depths names) order) r))

    length_names : length names ≡ length cs
    length_names = ap length e ∙ length-map cs (λ (c : NumberedClass). c.name)

    -- there are as many places as classes
    pub order_count : length order ≡ length cs
    order_count = length_permutation (range_with_len 0 (length names)) order p ∙ length-range_with_len 0 (length names) ∙ length_names

    pub order_within : All (λ i. i < length cs) order
    order_within k d lt = omega (arith, range_below (length names) (get_or order k d) (Contains-permutation order (range_with_len 0 (length names)) (get_or order k d) (IsPermutation-sym (range_with_len 0 (length names)) order p) (Contains-get_or order k d lt)), length_names)

    -- each is one of the classes
    pub arranged_among : (arranged : List NumberedClass) → arranged ≡ map (λ i. get_or cs i no_class) order → (c : NumberedClass) → Contains arranged c → Contains cs c
    arranged_among arranged is c member =
        let s = Contains-map_source (λ i. get_or cs i no_class) order c (subst (λ (l : List NumberedClass). Contains l c) is member) in
        let lt : s.0 < length cs = All-contains (λ i. i < length cs) order s.0 order_within s.1 in
        (s.0, lt, get_or_default cs s.0 c no_class lt ∙ s.2)

    pub ordered_are : AreDepthsOf D depths → (arranged : List NumberedClass) → arranged ≡ map (λ i. get_or cs i no_class) order → map (definition_of m) arranged ≡ in_class_order D
    ordered_are a arranged is =
        ap (map (definition_of m)) is ∙ arranged_are order order_within
        ∙ same_order D depths names a (subst (AreNamesOf D) (sym e) (names_of m cs named)) (definition_of m no_class) order names_apart (subst (λ (n : ℕ). IsPermutation (range_with_len 0 n) order) (length_names ∙ sym (length-map cs (definition_of m))) p) r
