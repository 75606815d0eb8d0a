-- Candidates by their numbers.
use Rattle.dexmerge.proofs.Common.{◌≡◌, ℕ, ◌+◌, ◌<◌, List, [], ◌∷◌, ◌++◌, length, get_or, take, map, sym, ap, ◌∙◌, subst, arith, Option, Some, None, ◌↔◌, All, length-map, get_or-map, take_more, map-append, append_assoc, present, Maps, NumberedClass, renumbered_class, AreByType, IsHierarchyOf, no_class, name_number, parent_numbers, ArePlaces, IsHierarchy, places_some, map-map, present-append}
use Rattle.dexmerge.specs.{class_of, classes_of, class_at, kept_classes, IsEqualCopy}
use Rattle.dexmerge.specs.declared.candidates.Candidate.{Candidate}

-- the class of the candidate at a place
pub at_place : (cs : List Candidate) (i : ℕ) (c : Candidate) → i < length cs → c ≡ get_or cs i c → class_of c ≡ class_at (classes_of cs) i
at_place cs i c lt e = ap class_of e ∙ sym (get_or-map class_of cs i c no_class lt)

-- and its name
pub name_at_place : (cs : List Candidate) (i : ℕ) (c : Candidate) → i < length cs → c ≡ get_or cs i c → (class_of c).name ≡ name_number (classes_of cs) i
name_at_place cs i c lt e = ap (λ (x : NumberedClass). x.name) (at_place cs i c lt e)

-- there are as many classes
pub count_classes : (cs : List Candidate) → length (classes_of cs) ≡ length cs
count_classes cs = length-map cs class_of

-- what is known of the candidates is known of their classes
pub places_of : (cs : List Candidate) (places : List (Option ℕ)) → AreByType (map (λ c. (class_of c).name) cs) places → ArePlaces (classes_of cs) places
places_of cs places h = subst (λ (names : List ℕ). AreByType names places) (sym (map-map (λ (x : NumberedClass). x.name) class_of cs)) h

pub names_below : (cs : List Candidate) (n : ℕ) → All (λ c. c.name < n) (classes_of cs) → All (λ c. (class_of c).name < n) cs
names_below cs n all i d lt = subst (λ (x : NumberedClass). x.name < n) (get_or-map class_of cs i d no_class lt) (all i no_class (omega (arith, lt, length-map cs class_of)))

pub hierarchy_of : (cs : List Candidate) (H : List (List ℕ)) → IsHierarchyOf (map (λ c. (class_of c).name) cs) (map (λ c. parent_numbers (class_of c)) cs) H → IsHierarchy (classes_of cs) H
hierarchy_of cs H h =
    subst (λ (names : List ℕ). IsHierarchyOf names (map parent_numbers (classes_of cs)) H) (sym (map-map (λ (x : NumberedClass). x.name) class_of cs))
    (subst (λ (parents : List (List ℕ)). IsHierarchyOf (map (λ c. (class_of c).name) cs) parents H) (sym (map-map parent_numbers class_of cs)) h)

-- a class that is kept is one of them
pub kept_within : (cs : List Candidate) (places : List (Option ℕ)) (t i : ℕ) → ArePlaces (classes_of cs) places → get_or places t None ≡ Some i → i < length cs
kept_within cs places t i h e = omega (arith, (places_some (classes_of cs) places h t i e).0, count_classes cs)

-- P decides `IsEqualCopy` where it decides whether class i is equal to the class that is kept of its name
pub equivalent_by : (cs : List NumberedClass) (places : List (Option ℕ)) (i k : ℕ) (P : Type 0) → get_or places (name_number cs i) None ≡ Some k → P ↔ (class_at cs i ≡ class_at cs k) → P ↔ IsEqualCopy cs places i
equivalent_by cs places i k P e h = (
  λ p. λ j is. let same : k ≡ j = (let both : Some k ≡ Some j = sym e ∙ is in cc) in subst (λ (n : ℕ). class_at cs i ≡ class_at cs n) same (h.0 p),
  λ equivalent. h.1 (equivalent k e),
)

-- one place more
pub kept_next : (cs : List NumberedClass) (places : List (Option ℕ)) (t : ℕ) (old new : List NumberedClass) → t < length places → old ≡ kept_classes cs (take t places) → new ≡ old ++ map (class_at cs) (present (get_or places t None ∷ [])) → new ≡ kept_classes cs (take (t + 1) places)
kept_next cs places t old new lt h pushed =
    pushed ∙ ap (λ (l : List NumberedClass). l ++ map (class_at cs) (present (get_or places t None ∷ []))) h
    ∙ sym (map-append (class_at cs) (present (take t places)) (present (get_or places t None ∷ [])))
    ∙ ap (map (class_at cs)) (sym (present-append (take t places) (get_or places t None ∷ [])))
    ∙ ap (λ (l : List (Option ℕ)). kept_classes cs l) (sym (take_more places t None lt))

-- one class of a part more
pub push_more : (cs new : List Candidate) (c : Candidate) (before : List NumberedClass) (r : Maps) (ps : List NumberedClass) (k : ℕ) (x : NumberedClass) → new ≡ cs ++ c ∷ [] → class_of c ≡ renumbered_class r x → k < length ps → x ≡ get_or ps k x → classes_of cs ≡ before ++ map (renumbered_class r) (take k ps)
    → classes_of new ≡ before ++ map (renumbered_class r) (take (k + 1) ps)
push_more cs new c before r ps k x pushed is lt at h =
    let f = renumbered_class r in
    let more : map f (take (k + 1) ps) ≡ map f (take k ps) ++ f x ∷ [] = ap (map f) (take_more ps k x lt) ∙ map-append f (take k ps) (get_or ps k x ∷ []) ∙ ap (λ (y : NumberedClass). map f (take k ps) ++ f y ∷ []) (sym at) in
    ap classes_of pushed ∙ map-append class_of cs (c ∷ []) ∙ ap (λ (y : NumberedClass). classes_of cs ++ y ∷ []) is ∙ ap (λ (l : List NumberedClass). l ++ f x ∷ []) h
    ∙ append_assoc before (map f (take k ps)) (f x ∷ []) ∙ ap (λ (l : List NumberedClass). before ++ l) (sym more)
