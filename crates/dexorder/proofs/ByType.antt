-- For each type the class that it names, and the parents of a class, one element at a time.
use Rattle.dexorder.proofs.Common.{◌≡◌, ℕ, ◌+◌, ◌-◌, ◌<◌, List, [], ◌∷◌, ◌++◌, length, get_or, take, drop, refl, sym, ap, ◌∙◌, subst, arith, inl, inr, length-take, map, Option, Some, None, IsSome, slice_set, cases_eq, cases_lt, get_or-set_same, get_or-set_other, take_more, length_push, get_or_append_left, get_or_push, map-append, length-map, present, same_Some, zero, suc, Contains, Contains-get_or, get_or-map, get_or_default}
use Rattle.dexspec.proofs.sharing.Sharing.{present_source}
use Rattle.dexorder.specs.{AreByType, HasNoClassFrom, HaveParentsWithin, IsFirstClassFrom, classes_of_types, parent_types}
use Rattle.dexorder.specs.declared.parents.InterfaceClass.{InterfaceClass}
use Rattle.dexorder.specs.EqualLists.{AreFirstEqual}
use Rattle.dexorder.specs.internal.Searching.{AreParentsWithin, HasNoParentFrom, HaveEqualParents, IsFirstParentFrom, interface_parents, parents_in, parents_of_all}

-- ---- one more class

module _ (names : List ℕ) (by_type : List (Option ℕ)) (name : ℕ) (h : AreByType names by_type) (lt : name < length by_type) where
  now : List (Option ℕ)
  now = slice_set by_type name (Some (length names))

  before_is : (i : ℕ) → i < length names → get_or (names ++ name ∷ []) i 0 ≡ get_or names i 0
  before_is i less = get_or_append_left names (name ∷ []) 0 i less

  last_is : get_or (names ++ name ∷ []) (length names) 0 ≡ name
  last_is = get_or_push names name 0 (length names) refl

  some_more : (t i : ℕ) → get_or now t None ≡ Some i → (i < length (names ++ name ∷ [])) × (get_or (names ++ name ∷ []) i 0 ≡ t)
  unfolding now
  some_more t i e = elim (cases_eq name t) [
    | inl same ↦
        let at : length names ≡ i = same_Some (length names) i (sym (get_or-set_same by_type name (Some (length names)) None lt) ∙ ap (λ (k : ℕ). get_or now k None) same ∙ e) in
        (omega (arith, at, length_push names name), subst (λ (k : ℕ). get_or (names ++ name ∷ []) k 0 ≡ t) at (last_is ∙ same))
    | inr other ↦
        let old = h.some t i (sym (get_or-set_other by_type name t (Some (length names)) None (λ x. other (sym x))) ∙ e) in
        (omega (arith, old.0, length_push names name), before_is i old.0 ∙ old.1)
  ]

  all_more : (i : ℕ) → i < length (names ++ name ∷ []) → IsSome (get_or now (get_or (names ++ name ∷ []) i 0) None)
  unfolding now
  all_more i less = elim (cases_lt i (length names)) [
    | inl small ↦ subst (λ (k : ℕ). IsSome (get_or now k None)) (sym (before_is i small)) (elim (cases_eq name (get_or names i 0)) [
      | inl same ↦ subst (λ (k : ℕ). IsSome (get_or now k None)) same (subst IsSome (sym (get_or-set_same by_type name (Some (length names)) None lt)) refl)
      | inr other ↦ subst IsSome (sym (get_or-set_other by_type name (get_or names i 0) (Some (length names)) None (λ x. other (sym x)))) (h.all i small)
    ])
    | inr large ↦
        let at : length names ≡ i = omega (arith, less, large, length_push names name) in
        subst (λ (k : ℕ). IsSome (get_or now (get_or (names ++ name ∷ []) k 0) None)) at (subst (λ (k : ℕ). IsSome (get_or now k None)) (sym last_is) (subst IsSome (sym (get_or-set_same by_type name (Some (length names)) None lt)) refl))
  ]

  by_type_more : AreByType (names ++ name ∷ []) (slice_set by_type name (Some (length names)))
  unfolding now
  by_type_more = record { some = some_more; all = all_more }

-- the class at place i is entered
pub by_type_next : {C : Type 0} (name_of : C → ℕ) (cs : List C) (by_type : List (Option ℕ)) (i name : ℕ) (d : C) → i < length cs → AreByType (map name_of (take i cs)) by_type → name ≡ name_of (get_or cs i d) → name < length by_type
    → AreByType (map name_of (take (i + 1) cs)) (slice_set by_type name (Some i))
by_type_next name_of cs by_type i name d lt h e less =
    let before = map name_of (take i cs) in
    let count : length before ≡ i = omega (arith, lt, length-take i cs, length-map (take i cs) name_of) in
    let all : map name_of (take (i + 1) cs) ≡ before ++ name ∷ [] = ap (map name_of) (take_more cs i d lt) ∙ map-append name_of (take i cs) (get_or cs i d ∷ []) ∙ ap (λ (n : ℕ). before ++ n ∷ []) (sym e) in
    subst (λ (l : List ℕ). AreByType l (slice_set by_type name (Some i))) (sym all) (subst (λ (k : ℕ). AreByType (before ++ name ∷ []) (slice_set by_type name (Some k))) count (by_type_more before by_type name h less))

-- ---- the parents of classes

-- without the types that are no classes they are those of the types
pub parents_present : (by_type : List (Option ℕ)) (superclass : Option ℕ) (interfaces : List ℕ) → present (parents_in by_type superclass interfaces) ≡ classes_of_types by_type (parent_types superclass interfaces)
parents_present by_type None interfaces = refl
parents_present by_type (Some t) interfaces = refl

pub parents_length : (by_type : List (Option ℕ)) (superclass : Option ℕ) (interfaces : List ℕ) → length (parents_in by_type superclass interfaces) ≡ length interfaces + 1
parents_length by_type None interfaces = omega (arith, length-map interfaces (λ t. get_or by_type t None))
parents_length by_type (Some t) interfaces = omega (arith, length-map interfaces (λ t. get_or by_type t None))

-- all but the superclass
pub parents_rest : (by_type : List (Option ℕ)) (superclass : Option ℕ) (interfaces : List ℕ) → drop 1 (parents_in by_type superclass interfaces) ≡ map (λ t. get_or by_type t None) interfaces
parents_rest by_type None interfaces = refl
parents_rest by_type (Some t) interfaces = refl

-- the superclass
pub parent_first : (by_type : List (Option ℕ)) (t : ℕ) (interfaces : List ℕ) → get_or (parents_in by_type (Some t) interfaces) 0 None ≡ get_or by_type t None
parent_first by_type t interfaces = refl

-- an interface
pub parent_later : (by_type : List (Option ℕ)) (superclass : Option ℕ) (interfaces : List ℕ) (j k d : ℕ) → k ≡ suc j → j < length interfaces → get_or (parents_in by_type superclass interfaces) k None ≡ get_or by_type (get_or interfaces j d) None
parent_later by_type None interfaces j k d e lt = ap (λ (n : ℕ). get_or (parents_in by_type None interfaces) n None) e ∙ get_or-map (λ t. get_or by_type t None) interfaces j d None lt
parent_later by_type (Some s) interfaces j k d e lt = ap (λ (n : ℕ). get_or (parents_in by_type (Some s) interfaces) n None) e ∙ get_or-map (λ t. get_or by_type t None) interfaces j d None lt

-- the parents from a place on are the interfaces from the place before it on
module _ (by_type : List (Option ℕ)) (superclass : Option ℕ) (interfaces : List ℕ) (place : ℕ) where
  at_place : (k : ℕ) → 0 < k → k < length (parents_in by_type superclass interfaces) → get_or (parents_in by_type superclass interfaces) k None ≡ get_or by_type (get_or interfaces (k - 1) 0) None
  at_place k some lt = parent_later by_type superclass interfaces (k - 1) k 0 (omega (arith, some)) (omega (arith, lt, some, parents_length by_type superclass interfaces))

  pub no_parent_from : HasNoClassFrom by_type interfaces place → HasNoParentFrom (parents_in by_type superclass interfaces) (place + 1)
  no_parent_from none k from lt = at_place k (omega (arith, from)) lt ∙ none (k - 1) (omega (arith, from)) (omega (arith, lt, from, parents_length by_type superclass interfaces))

  pub first_parent_from : (found : InterfaceClass) → IsFirstClassFrom by_type interfaces place found → IsFirstParentFrom (parents_in by_type superclass interfaces) (place + 1) (found.passed, found.class)
  first_parent_from found h =
      let few : found.passed < length (parents_in by_type superclass interfaces) = omega (arith, h.within, parents_length by_type superclass interfaces) in
      record {
        parent = record {
          later = omega (arith, h.later);
          within = few;
          is = at_place found.passed (omega (arith, h.later)) few ∙ ap (λ (t : ℕ). get_or by_type t None) h.typ_is ∙ h.class_is;
        };
        before = λ k from lt. at_place k (omega (arith, from)) (omega (arith, lt, few)) ∙ h.before (k - 1) (omega (arith, from)) (omega (arith, from, lt));
      }

-- a class among the parents is that of a type
mapped_type : (by_type : List (Option ℕ)) (types : List ℕ) (k p : ℕ) → get_or (map (λ t. get_or by_type t None) types) k None ≡ Some p → (t : ℕ) × (get_or by_type t None ≡ Some p)
mapped_type by_type [] k p e = absurd cc
mapped_type by_type (t ∷ types) zero p e = (t, e)
mapped_type by_type (t ∷ types) (suc k) p e = mapped_type by_type types k p e

pub parent_type : (by_type : List (Option ℕ)) (superclass : Option ℕ) (interfaces : List ℕ) (k p : ℕ) → get_or (parents_in by_type superclass interfaces) k None ≡ Some p → (t : ℕ) × (get_or by_type t None ≡ Some p)
parent_type by_type None interfaces zero p e = absurd cc
parent_type by_type None interfaces (suc k) p e = mapped_type by_type interfaces k p e
parent_type by_type (Some t) interfaces zero p e = (t, e)
parent_type by_type (Some t) interfaces (suc k) p e = mapped_type by_type interfaces k p e

module _ {C : Type 0} (by_type : List (Option ℕ)) (superclass_of : C → Option ℕ) (interfaces_of : C → List ℕ) where
  pub all_present : (cs : List C) → map present (parents_of_all by_type superclass_of interfaces_of cs) ≡ map (λ c. classes_of_types by_type (parent_types (superclass_of c) (interfaces_of c))) cs
  all_present [] = refl
  all_present (c ∷ cs) = λ i. (parents_present by_type (superclass_of c) (interfaces_of c)) i ∷ (all_present cs) i

  type_of_any : (cs : List C) (i k p : ℕ) → get_or (get_or (parents_of_all by_type superclass_of interfaces_of cs) i []) k None ≡ Some p → (t : ℕ) × (get_or by_type t None ≡ Some p)
  type_of_any [] i k p e = absurd cc
  type_of_any (c ∷ cs) zero k p e = parent_type by_type (superclass_of c) (interfaces_of c) k p e
  type_of_any (c ∷ cs) (suc i) k p e = type_of_any cs i k p e

  -- each of them is a class
  pub parents_within : (cs : List C) → AreParentsWithin by_type (length cs) → HaveParentsWithin (map present (parents_of_all by_type superclass_of interfaces_of cs))
  parents_within cs h i d lt k e less =
      let parents = parents_of_all by_type superclass_of interfaces_of cs in
      let few : i < length parents = omega (arith, lt, length-map parents present) in
      let at : get_or (map present parents) i d ≡ present (get_or parents i []) = get_or-map present parents i [] d few in
      let p = get_or (get_or (map present parents) i d) k e in
      let s = present_source (get_or parents i []) p (subst (λ (l : List ℕ). Contains l p) at (Contains-get_or (get_or (map present parents) i d) k e less)) in
      let t = type_of_any cs i s.0 p s.2 in
      omega (arith, h t.0 p t.1, length-map parents present, length-map cs (λ c. parents_in by_type (superclass_of c) (interfaces_of c)))

  -- the parents of one class
  pub parents_of_one : (cs : List C) (i : ℕ) (c : C) → i < length cs → c ≡ get_or cs i c → get_or (parents_of_all by_type superclass_of interfaces_of cs) i [] ≡ parents_in by_type (superclass_of c) (interfaces_of c)
  parents_of_one cs i c lt e = get_or-map (λ c. parents_in by_type (superclass_of c) (interfaces_of c)) cs i c [] lt ∙ ap (λ (c : C). parents_in by_type (superclass_of c) (interfaces_of c)) (sym e)

  -- they are some, of which the superclass is one
  pub parents_some : (cs : List C) (i : ℕ) → i < length cs → 0 < length (get_or (parents_of_all by_type superclass_of interfaces_of cs) i [])
  parents_some [] i lt = absurd (omega arith)
  parents_some (c ∷ cs) zero lt = omega (arith, parents_length by_type (superclass_of c) (interfaces_of c))
  parents_some (c ∷ cs) (suc i) lt = parents_some cs i (omega arith)

  -- all but the superclass
  rest_of_one : (cs : List C) (i : ℕ) (d : C) → i < length cs → interface_parents (parents_of_all by_type superclass_of interfaces_of cs) i ≡ map (λ t. get_or by_type t None) (interfaces_of (get_or cs i d))
  rest_of_one cs i d lt =
      let c = get_or cs i d in
      ap (drop 1) (parents_of_one cs i c lt (sym (get_or_default cs i c d lt))) ∙ parents_rest by_type (superclass_of c) (interfaces_of c)

  -- classes that have equal interfaces have equal parents but for the superclass
  pub equal_parents : (cs : List C) (firsts : List ℕ) → AreFirstEqual interfaces_of cs firsts → HaveEqualParents (parents_of_all by_type superclass_of interfaces_of cs) firsts
  equal_parents [] firsts h i few lt = absurd (omega arith)
  equal_parents (c ∷ cs) firsts h i few lt =
      let within : i < length (c ∷ cs) = omega (arith, lt, length-map (c ∷ cs) (λ c. parents_in by_type (superclass_of c) (interfaces_of c))) in
      rest_of_one (c ∷ cs) (get_or firsts i 0) c (omega (arith, h.before i within, within)) ∙ ap (map (λ t. get_or by_type t None)) (h.equal i c within) ∙ sym (rest_of_one (c ∷ cs) i c within)
