-- Classes with their parents number the definitions that they denote.
use Rattle.dexclass.proofs.Common.{◌≡◌, ℕ, ◌<◌, List, [], ◌++◌, length, get_or, map, refl, sym, ap, ◌∙◌, subst, arith, Option, Some, None, All, IsSome, option_to_list, option_map, Contains, flat_map, filter, length-map, get_or-map, get_or_default, All-contains, Contains-get_or, Text, text_cmp, same_text, Definition, parents, is_defined, above, Mentions, Contains-flat_map, Contains-flat_map_source, Contains-filter, Contains-filter_source, list_any-member, list_any-source, Contains-map, Contains-map_source, text_total, parents_of, HaveParentsWithin, defined_name, AreClassParents, one_place as one_at, texts_same, same_from_equal, present_has, present_source, some_of, true, type_at}
use Rattle.dexclass.specs.{NumberedClass, definition_of, parent_numbers, no_class, name_number, ArePlaces, AreNamed}
use Rattle.dexclass.proofs.Places.{places_some, places_all, defined_parents, one_place, seen_apart}

module _ (m : Mentions) (cs : List NumberedClass) (named : AreNamed m cs) where
  abbrev D : List Definition
  D = map (definition_of m) cs

  -- the name of a definition is that of its class
  pub name_is : (i : ℕ) → i < length cs → defined_name D i ≡ type_at m (name_number cs i)
  name_is i lt =
      let few : i < length D = omega (arith, lt, length-map cs (definition_of m)) in
      get_or-map (λ (d : Definition). d.0) D i (definition_of m no_class) [] few ∙ ap (λ (d : Definition). d.0) (get_or-map (definition_of m) cs i no_class (definition_of m no_class) lt)

  -- a type has one number
  pub one_number : (i j : ℕ) → i < length m.types → j < length m.types → type_at m i ≡ type_at m j → i ≡ j
  one_number i j li lj e = one_at text_cmp text_total m.types named.rising i j [] li lj e

  -- the parents of a definition are the types of its class's parents
  parent_types : (c : NumberedClass) → parents (definition_of m c).1 ≡ map (type_at m) (parent_numbers c)
  parent_types c = by_superclass c.superclass
    where
      by_superclass : (o : Option ℕ) → option_to_list (option_map (type_at m) o) ++ map (type_at m) c.interfaces ≡ map (type_at m) (option_to_list o ++ c.interfaces)
      by_superclass None = refl
      by_superclass (Some i) = refl

  module _ (places : List (Option ℕ)) (h : ArePlaces cs places) where
    abbrev classes : List (List ℕ)
    classes = map (defined_parents places) cs

    at_class : (i : ℕ) → i < length cs → parents_of classes i ≡ defined_parents places (get_or cs i no_class)
    at_class i lt = get_or-map (defined_parents places) cs i no_class [] lt

    -- a parent's number is that of a class with a parent's name
    parent_source : (c : NumberedClass) (k : ℕ) → Contains (defined_parents places c) k → (p : ℕ) × Contains (parent_numbers c) p × (get_or places p None ≡ Some k)
    parent_source c k has =
        let ps = map (λ p. get_or places p None) (parent_numbers c) in
        let s = present_source ps k has in
        Contains-map_source (λ p. get_or places p None) (parent_numbers c) (Some k) (s.0, s.1, get_or_default ps s.0 (Some k) None s.1 ∙ s.2)

    within : HaveParentsWithin classes
    within i d lt =
        let few : i < length cs = omega (arith, lt, length-map cs (defined_parents places)) in
        subst (All (λ p. p < length classes)) (sym (get_or-map (defined_parents places) cs i no_class d few)) (λ k e small.
        let c = get_or cs i no_class in
        let s = parent_source c (get_or (defined_parents places c) k e) (Contains-get_or (defined_parents places c) k e small) in
        omega (arith, (places_some cs places h s.0 (get_or (defined_parents places c) k e) s.2).0, length-map cs (defined_parents places)))

    -- a defined parent is above
    is_above : (i : ℕ) (name : Text) → i < length cs → Contains (map (defined_name D) (parents_of classes i)) name → Contains (above D (defined_name D i)) name
    is_above i name lt has =
        let c = get_or cs i no_class in
        let k = Contains-map_source (defined_name D) (parents_of classes i) name has in
        let s = parent_source c k.0 (subst (λ (l : List ℕ). Contains l k.0) (at_class i lt) k.1) in
        let at = places_some cs places h s.0 k.0 s.2 in
        let own : same_text (definition_of m c).0 (defined_name D i) ≡ true = same_from_equal (type_at m c.name) (defined_name D i) (sym (name_is i lt)) in
        let parent : Contains (parents (definition_of m c).1) name = subst (λ (l : List Text). Contains l name) (sym (parent_types c)) (subst (Contains (map (type_at m) (parent_numbers c))) (sym (sym k.2 ∙ name_is k.0 at.0 ∙ ap (type_at m) at.1)) (Contains-map (type_at m) (parent_numbers c) s.0 s.1)) in
        let defined : is_defined D name ≡ true =
        let d = get_or cs k.0 no_class in
        list_any-member (λ x. same_text x.0 name) D (definition_of m d) (Contains-map (definition_of m) cs d (Contains-get_or cs k.0 no_class at.0)) (same_from_equal (type_at m d.name) name (sym (name_is k.0 at.0) ∙ k.2)) in
        Contains-filter (is_defined D) (flat_map (λ d. parents d.1) (filter (λ d. same_text d.0 (defined_name D i)) D)) name
        (Contains-flat_map (λ d. parents d.1) (filter (λ d. same_text d.0 (defined_name D i)) D) (definition_of m c) name (Contains-filter (λ d. same_text d.0 (defined_name D i)) D (definition_of m c) (Contains-map (definition_of m) cs c (Contains-get_or cs i no_class lt)) own) parent)
        defined

    -- classes of one name are one
    one_class : (c : NumberedClass) (i : ℕ) → Contains cs c → i < length cs → type_at m c.name ≡ defined_name D i → c ≡ get_or cs i no_class
    one_class c i member lt e =
        let at : get_or cs member.0 no_class ≡ c = get_or_default cs member.0 no_class c member.1 ∙ member.2 in
        let number : name_number cs member.0 ≡ name_number cs i = one_number _ _ (named.names member.0 member.1) (named.names i lt) (ap (λ (x : NumberedClass). type_at m x.name) at ∙ e ∙ name_is i lt) in
        sym at ∙ ap (λ (k : ℕ). get_or cs k no_class) (one_place (λ (x : NumberedClass). x.name) cs (seen_apart (λ (x : NumberedClass). x.name) cs named.distinct) member.0 i no_class member.1 lt number)

    -- and what is above is a defined parent
    of_above : (i : ℕ) (name : Text) → i < length cs → Contains (above D (defined_name D i)) name → Contains (map (defined_name D) (parents_of classes i)) name
    of_above i name lt has =
        let f = Contains-filter_source (is_defined D) (flat_map (λ d. parents d.1) (filter (λ d. same_text d.0 (defined_name D i)) D)) name has in
        let d = Contains-flat_map_source (λ d. parents d.1) (filter (λ d. same_text d.0 (defined_name D i)) D) name f.0 in
        let own = Contains-filter_source (λ d. same_text d.0 (defined_name D i)) D d.0 d.1 in
        let c = Contains-map_source (definition_of m) cs d.0 own.0 in
        let is : c.0 ≡ get_or cs i no_class = one_class c.0 i c.1 lt ((ap (λ (x : Definition). x.0) c.2) ∙ texts_same d.0.0 (defined_name D i) (sym own.1)) in
        let p = Contains-map_source (type_at m) (parent_numbers c.0) name (subst (λ (l : List Text). Contains l name) (parent_types c.0) (subst (λ (x : Definition). Contains (parents x.1) name) (sym c.2) d.2)) in
        let e = list_any-source (λ x. same_text x.0 name) D f.1 in
        let k = Contains-map_source (definition_of m) cs e.0 e.1 in
        let named_p : type_at m (name_number cs k.1.0) ≡ type_at m p.0 = ap (λ (x : NumberedClass). type_at m x.name) (get_or_default cs k.1.0 no_class k.0 k.1.1 ∙ k.1.2) ∙ ap (λ (x : Definition). x.0) k.2 ∙ texts_same e.0.0 name (sym e.2) ∙ sym p.2 in
        let some = some_of (get_or places p.0 None) (subst (λ (n : ℕ). IsSome (get_or places n None)) (one_number _ _ (named.names k.1.0 k.1.1) (All-contains (λ q. q < length m.types) (parent_numbers c.0) p.0 (named.parents_in c.0 c.1) p.1) named_p) (places_all cs places h k.1.0 k.1.1)) in
        let at = places_some cs places h p.0 some.0 some.1 in
        let listed : Contains (defined_parents places c.0) some.0 = let ps = map (λ q. get_or places q None) (parent_numbers c.0) in let q = subst (Contains ps) some.1 (Contains-map (λ q. get_or places q None) (parent_numbers c.0) p.0 p.1) in
        present_has ps q.0 some.0 q.1 (get_or_default ps q.0 None (Some some.0) q.1 ∙ q.2) in
        subst (Contains (map (defined_name D) (parents_of classes i))) (name_is some.0 at.0 ∙ ap (type_at m) at.1 ∙ p.2) (Contains-map (defined_name D) (parents_of classes i) some.0 (subst (λ (l : List ℕ). Contains l some.0) (ap (defined_parents places) is ∙ sym (at_class i lt)) listed))

    pub classes_of : AreClassParents D classes
    classes_of = record {
      count = length-map cs (defined_parents places) ∙ sym (length-map cs (definition_of m));
      within = within;
      parents = λ i lt name. let few : i < length cs = omega (arith, lt, length-map cs (defined_parents places)) in (is_above i name few, of_above i name few);
    }
