-- What the numbers of a union's classes say of its definitions.
use Rattle.dexmerge.proofs.Common.{◌≡◌, ℕ, zero, suc, ◌+◌, ◌<◌, ◌≤◌, List, [], ◌∷◌, length, get_or, map, refl, sym, ap, ◌∙◌, subst, arith, inl, inr, Option, Some, None, Less, All, Contains, cases_order, length-map, get_or-map, get_or_default, Contains-get_or, present, AreDistinct, Text, text_cmp, Body, Definition, Mentions, Caps, IsConflict, IsConsistent, Cause, Conflict, Cycle, Exceeded, IsCause, IsReportedBefore, IsFirstCause, Contains-first, Contains-later, consistent-apart, Contains-map, Contains-map_source, AreRising, NumberedClass, type_at, definition_of, IsKnownClass, no_class, name_number, parent_numbers, ArePlaces, places_some, places_all, All-tail, present_source}
use Rattle.dexclass.proofs.NamesOf.{less_type}
use Rattle.dexclass.proofs.Remapped.{one_at}
use Rattle.dexinsn.proofs.IndexRoom.{size_is}
use Rattle.dexmerge.specs.{AreMembers, class_at, IsEqualCopy, IsFirstConflict, kept_classes}
use Rattle.dexmerge.specs.internal.Cycles.{AreKept, IsFirstCycle}

-- what is present is at some place
present_at : (places : List (Option ℕ)) (t k : ℕ) → get_or places t None ≡ Some k → Contains (present places) k
present_at (None ∷ ps) (suc t) k e = present_at ps t k e
present_at (Some j ∷ ps) zero k e = let same : j ≡ k = cc in subst (Contains (j ∷ present ps)) same (Contains-first j (present ps))
present_at (Some j ∷ ps) (suc t) k e = Contains-later j k (present ps) (present_at ps t k e)
present_at x v k e = absurd cc

-- where the item at a place has the place as its name, names rise
module _ (name : ℕ → ℕ) where
  names_from : (places : List (Option ℕ)) (from : ℕ) → ((t k : ℕ) → get_or places t None ≡ Some k → name k ≡ from + t) → (i : ℕ) → i < length (present places) → from ≤ name (get_or (present places) i 0)
  names_from [] from h i lt = absurd (omega (arith, lt))
  names_from (None ∷ ps) from h i lt = omega (arith, names_from ps (from + 1) (λ t k e. omega (arith, h (suc t) k e)) i lt)
  names_from (Some j ∷ ps) from h zero lt = omega (arith, h 0 j refl)
  names_from (Some j ∷ ps) from h (suc i) lt = omega (arith, names_from ps (from + 1) (λ t k e. omega (arith, h (suc t) k e)) i (omega (arith, lt)))

  names_rise : (places : List (Option ℕ)) (from : ℕ) → ((t k : ℕ) → get_or places t None ≡ Some k → name k ≡ from + t) → (i j : ℕ) → i < j → j < length (present places) → name (get_or (present places) i 0) < name (get_or (present places) j 0)
  names_rise [] from h i j less lt = absurd (omega (arith, lt))
  names_rise (None ∷ ps) from h i j less lt = names_rise ps (from + 1) (λ t k e. omega (arith, h (suc t) k e)) i j less lt
  names_rise (Some x ∷ ps) from h i zero less lt = absurd (omega (arith, less))
  names_rise (Some x ∷ ps) from h zero (suc j) less lt = omega (arith, h 0 x refl, names_from ps (from + 1) (λ t k e. omega (arith, h (suc t) k e)) j (omega (arith, lt)))
  names_rise (Some x ∷ ps) from h (suc i) (suc j) less lt = names_rise ps (from + 1) (λ t k e. omega (arith, h (suc t) k e)) i j (omega (arith, less)) (omega (arith, lt))

-- different classes denote different definitions
abbrev pub AreDistinguished : Mentions → List NumberedClass → Type 0
AreDistinguished m cs = (i j : ℕ) → i < length cs → j < length cs → definition_of m (class_at cs i) ≡ definition_of m (class_at cs j) → class_at cs i ≡ class_at cs j

-- ---- numbers of types

module _ (m : Mentions) (rising : AreRising m) where
  module _ (cs : List NumberedClass) (range : All (IsKnownClass m) cs) where
    abbrev E : List Definition
    E = map (definition_of m) cs

    pub name_in : (i : ℕ) → i < length cs → name_number cs i < length m.types
    name_in i lt = (range i no_class lt).types_in 0 0 (omega arith)

    -- the definition of a class
    member : (i : ℕ) → i < length cs → Contains E (definition_of m (class_at cs i))
    member i lt = Contains-map (definition_of m) cs (class_at cs i) (Contains-get_or cs i no_class lt)

    -- a definition is that of a class
    record IsOf (name : Text) (c : Body) : Type 0 where
      place : ℕ
      within : place < length cs
      is : definition_of m (class_at cs place) ≡ (name, c)

    source : (name : Text) (c : Body) → Contains E (name, c) → IsOf name c
    source name c has =
        let s = Contains-map_source (definition_of m) cs (name, c) has in
        record { place = s.1.0; within = s.1.1; is = ap (definition_of m) (get_or_default cs s.1.0 no_class s.0 s.1.1 ∙ s.1.2) ∙ s.2 }

    name_of : (name : Text) (c : Body) (x : IsOf name c) → type_at m (name_number cs x.place) ≡ name
    name_of name c x = ap (λ (d : Definition). d.0) x.is

    -- two definitions of a name are classes of one number
    one_name : (name : Text) (c d : Body) (x : IsOf name c) (y : IsOf name d) → name_number cs x.place ≡ name_number cs y.place
    one_name name c d x y = one_at m.types rising.types_rise (name_number cs x.place) (name_number cs y.place) (name_in x.place x.within) (name_in y.place y.within) (name_of name c x ∙ sym (name_of name d y))

    -- the same class is the same definition
    one_body : (name : Text) (c d : Body) (x : IsOf name c) (y : IsOf name d) → class_at cs x.place ≡ class_at cs y.place → c ≡ d
    one_body name c d x y e = ap (λ (z : Definition). z.1) (sym x.is ∙ ap (definition_of m) e ∙ y.is)

    -- ---- conflicts

    module _ (places : List (Option ℕ)) (h : ArePlaces cs places) where
      -- classes of one name that are equal to the kept one are equal
      equivalent_same : (i j : ℕ) → i < length cs → name_number cs i ≡ name_number cs j → IsEqualCopy cs places i → IsEqualCopy cs places j → class_at cs i ≡ class_at cs j
      equivalent_same i j lt e f g =
          let k = size_is (get_or places (name_number cs i) None) (places_all cs places h i lt) in
          f k.0 k.1 ∙ sym (g k.0 (ap (λ (n : ℕ). get_or places n None) (sym e) ∙ k.1))

      -- the least name of different classes is the first cause
      pub conflict_reported : AreDistinguished m cs → (caps : Caps) (name : ℕ) → IsFirstConflict cs places name → IsFirstCause caps E (Conflict (type_at m name))
      conflict_reported distinguished caps name l = record { is = conflict; first = before }
        where
          kept_at : (l.is.kept < length cs) × (name_number cs l.is.kept ≡ name)
          kept_at = places_some cs places h name l.is.kept l.is.kept_is

          at_name : (i : ℕ) → i < length cs → name_number cs i ≡ name → Contains E (type_at m name, (definition_of m (class_at cs i)).1)
          at_name i lt e = subst (λ (n : ℕ). Contains E (type_at m n, (definition_of m (class_at cs i)).1)) e (member i lt)

          conflict : IsConflict E (type_at m name)
          conflict = record {
            one = (definition_of m (class_at cs l.is.place)).1;
            other = (definition_of m (class_at cs l.is.kept)).1;
            one_in = at_name l.is.place l.is.within l.is.name_is;
            other_in = at_name l.is.kept kept_at.0 kept_at.1;
            unequal = λ e. l.is.unequal (distinguished l.is.place l.is.kept l.is.within kept_at.0 (λ i. (type_at m ((l.is.name_is ∙ sym kept_at.1) i), e i)));
          }

          before : (other : Cause) → IsCause caps E other → IsReportedBefore other (Conflict (type_at m name)) → ⊥
          before (Conflict n) x less =
              let a = source n x.one x.one_in in
              let b = source n x.other x.other_in in
              let same = one_name n x.one x.other a b in
              let number : name_number cs a.place < name = (less_type m rising.types_rise (name_number cs a.place) name (name_in a.place a.within) (subst (λ (k : ℕ). k < length m.types) l.is.name_is (name_in l.is.place l.is.within))).1 (subst (λ (t : Text). text_cmp t (type_at m name) ≡ Less) (sym (name_of n x.one a)) less) in
              x.unequal (one_body n x.one x.other a b (equivalent_same a.place b.place a.within same (l.least a.place a.within number) (l.least b.place b.within (omega (arith, number, same)))))
          before v x never = never

      -- ---- one of each name

      source_place : (k : ℕ) → Contains (present places) k → k < length cs
      source_place k has = let t = present_source places k has in (places_some cs places h t.0 k t.2).0

      kept_within : (i : ℕ) → i < length (present places) → get_or (present places) i 0 < length cs
      kept_within i lt = source_place (get_or (present places) i 0) (Contains-get_or (present places) i 0 lt)

      count_kept : length (kept_classes cs places) ≡ length (present places)
      count_kept = length-map (present places) (class_at cs)

      kept_at : (i : ℕ) → i < length (kept_classes cs places) → class_at (kept_classes cs places) i ≡ class_at cs (get_or (present places) i 0)
      kept_at i lt = get_or-map (class_at cs) (present places) i 0 no_class (omega (arith, lt, count_kept))

      -- a class that is kept is one of the classes
      kept_source : (c : NumberedClass) → Contains (kept_classes cs places) c → Contains cs c
      kept_source c has =
          let s = Contains-map_source (class_at cs) (present places) c has in
          subst (Contains cs) s.2 (Contains-get_or cs s.0 no_class (source_place s.0 s.1))

      -- and each class that is equal to the kept one is kept
      kept_has : (i : ℕ) → i < length cs → IsEqualCopy cs places i → Contains (kept_classes cs places) (class_at cs i)
      kept_has i lt equivalent =
          let k = size_is (get_or places (name_number cs i) None) (places_all cs places h i lt) in
          subst (Contains (kept_classes cs places)) (sym (equivalent k.0 k.1)) (Contains-map (class_at cs) (present places) k.0 (present_at places (name_number cs i) k.0 k.1))

      -- where all classes of each name are equal, those that are kept denote the same definitions
      pub kept_members : (D : List Definition) → AreMembers m D cs → ((i : ℕ) → i < length cs → IsEqualCopy cs places i) → AreMembers m D (kept_classes cs places)
      kept_members D members equivalent = record {
        known = λ i d lt. let has = kept_source (get_or (kept_classes cs places) i d) (Contains-get_or (kept_classes cs places) i d lt) in subst (IsKnownClass m) has.2 (range has.0 (get_or (kept_classes cs places) i d) has.1);
        same = λ d. (
          λ c. (members.same d).0 (let s = Contains-map_source (definition_of m) (kept_classes cs places) d c in subst (Contains E) s.2 (Contains-map (definition_of m) cs s.0 (kept_source s.0 s.1))),
          λ c. let s = Contains-map_source (definition_of m) cs d ((members.same d).1 c) in
              subst (Contains (map (definition_of m) (kept_classes cs places))) (ap (definition_of m) (get_or_default cs s.1.0 no_class s.0 s.1.1 ∙ s.1.2) ∙ s.2) (Contains-map (definition_of m) (kept_classes cs places) (class_at cs s.1.0) (kept_has s.1.0 s.1.1 (equivalent s.1.0 s.1.1))),
        );
        formed = members.formed;
      }

      -- their names rise
      kept_name : (i : ℕ) → i < length (kept_classes cs places) → name_number (kept_classes cs places) i ≡ name_number cs (get_or (present places) i 0)
      kept_name i lt = ap (λ (c : NumberedClass). c.name) (kept_at i lt)

      pub kept_rise : (i j : ℕ) → i < j → j < length (kept_classes cs places) → name_number (kept_classes cs places) i < name_number (kept_classes cs places) j
      kept_rise i j less lt = omega (arith, names_rise (name_number cs) places 0 (λ t k e. omega (arith, (places_some cs places h t k e).1)) i j less (omega (arith, lt, count_kept)), kept_name i (omega (arith, less, lt)), kept_name j lt)

  -- ---- classes by name

  module _ (cs : List NumberedClass) (range : All (IsKnownClass m) cs) (rise : (i j : ℕ) → i < j → j < length cs → name_number cs i < name_number cs j) where
    -- no two places have one name
    one_place : (i j : ℕ) → i < length cs → j < length cs → name_number cs i ≡ name_number cs j → i ≡ j
    one_place i j li lj e = elim (cases_order i j) [
      | inl same ↦ same
      | inr (inl less) ↦ absurd (omega (arith, rise i j less lj, e))
      | inr (inr more) ↦ absurd (omega (arith, rise j i more li, e))
    ]

    pub names_differ : AreDistinct (map (λ c. c.name) cs)
    names_differ i j d less lt e =
        let few : j < length cs = omega (arith, lt, length-map cs (λ (c : NumberedClass). c.name)) in
        let ei : get_or (map (λ (c : NumberedClass). c.name) cs) i d ≡ name_number cs i = get_or-map (λ (c : NumberedClass). c.name) cs i no_class d (omega (arith, less, few)) in
        omega (arith, rise i j less few, ei, get_or-map (λ (c : NumberedClass). c.name) cs j no_class d few, e)

    -- no two definitions are the same
    pub definitions_differ : AreDistinct (map (definition_of m) cs)
    definitions_differ i j d less lt e =
        let few : j < length cs = omega (arith, lt, length-map cs (definition_of m)) in
        let first : i < length cs = omega (arith, few, less) in
        omega (arith, rise i j less few, one_at m.types rising.types_rise (name_number cs i) (name_number cs j) (name_in cs range i first) (name_in cs range j few) (ap (λ (x : Definition). x.0) (sym (get_or-map (definition_of m) cs i no_class d first) ∙ e ∙ (get_or-map (definition_of m) cs j no_class d few))))

    pub are_kept : AreKept m cs
    are_kept = record {
      named = record {
        rising = rising.types_rise;
        names = name_in cs range;
        parents_in = λ c has. All-tail (λ p. p < length m.types) c.name (parent_numbers c) (subst (IsKnownClass m) has.2 (range has.0 c has.1)).types_in;
        distinct = names_differ;
      };
      rise = rise;
    }

    -- no name has two definitions
    pub consistent : IsConsistent (map (definition_of m) cs)
    consistent name one other c d =
        let x = source cs range name one c in
        let y = source cs range name other d in
        one_body cs range name one other x y (ap (class_at cs) (one_place x.place y.place x.within y.within (one_name cs range name one other x y)))

    -- the first cycle is the first cause
    pub cycle_reported : (caps : Caps) (i : ℕ) → IsFirstCycle m cs i → IsFirstCause caps (map (definition_of m) cs) (Cycle (type_at m (name_number cs i)))
    cycle_reported caps i f = record { is = f.is; first = before }
      where
        before : (other : Cause) → IsCause caps (map (definition_of m) cs) other → IsReportedBefore other (Cycle (type_at m (name_number cs i))) → ⊥
        before (Conflict n) x _ = consistent-apart (map (definition_of m) cs) n consistent x
        before (Cycle n) x less = f.least n x less
        before (Exceeded k) x never = never
