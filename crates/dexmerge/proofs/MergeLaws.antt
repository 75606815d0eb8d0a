-- What the steps of a merge know.
use Rattle.dexmerge.proofs.Common.{◌≡◌, ℕ, ◌<◌, List, [], ◌∷◌, length, get_or, map, sym, ap, ◌∙◌, subst, arith, Option, Some, None, All, MatchOption, ◌↔◌, AllZip, flat_map, length-map, get_or-map, Contains-get_or, AreDistinct, Definition, Collection, definitions, AreSame, Mentions, mentions, Caps, IsGood, IsFirstCause, Conflict, Cycle, mentions-same, first_cause-same, IsGood-within, AreRising, AreIn, Maps, NumberedClass, type_at, definition_of, no_class, name_number, ArePlaces, AreDepthsByName, renumbered_class, MapsAllInto, IsPartClass, All-contains}
use Rattle.dexmerge.specs.{IsOfCap, AreMembers, IsOfPart, IsEqualCopy, IsFirstConflict, kept_classes, class_of, classes_of, class_at}
use Rattle.dexmerge.specs.declared.candidates.Candidate.{Candidate}
use Rattle.dexmerge.specs.internal.Cycles.{AreKept, AreAcyclic, IsFirstCycle}
use Rattle.dexmerge.specs.internal.Amounts.{first_over}
use Rattle.dexmerge.specs.internal.Unions.{AreCopies, AreOnce, IsJoined}
use Rattle.dexmerge.proofs.UnionLaws.{AreDistinguished, conflict_reported, kept_members, kept_rise, are_kept, definitions_differ, consistent, cycle_reported}
use Rattle.dexmerge.proofs.CapLaws.{found_cap}
use Rattle.dexmerge.proofs.CycleLaws.{depths_same}

-- the first of several
first_of : {X : Type 0} (xs : List X) → 0 < length xs → X
first_of [] lt = absurd (omega (arith, lt))
first_of (x ∷ xs) lt = x

-- the copies of joined parts
pub are_copies : (parts : List Collection) (m : Mentions) (remaps : List Maps) (cs : List Candidate) → IsJoined parts m remaps → (AllZip (λ part remap. MapsAllInto (mentions (definitions part)) m remap) parts remaps → AreMembers m (flat_map definitions parts) (classes_of cs))
    → (AllZip (λ part remap. MapsAllInto (mentions (definitions part)) m remap) parts remaps → All (IsOfPart m) cs) → AreCopies m (flat_map definitions parts) cs
are_copies parts m remaps cs j members of_parts = record { mentions_are = j.mentions_are; rising = j.rising; of_parts = of_parts j.are_mapped; members = members j.are_mapped }

-- classes of two numberings are equal once remapped if and only if they denote the same
abbrev pub Distinguishes : Type 0
Distinguishes = (m n whole : Mentions) (r s : Maps) (c d : NumberedClass) → AreRising whole → IsPartClass whole m r c → IsPartClass whole n s d → (renumbered_class r c ≡ renumbered_class s d) ↔ (definition_of m c ≡ definition_of n d)

module _ (m : Mentions) (D : List Definition) (cs : List Candidate) (h : AreCopies m D cs) where
  abbrev Cs : List NumberedClass
  Cs = classes_of cs

  -- names are types
  pub copy_names : All (λ c. c.name < length m.types) Cs
  copy_names i d lt = (h.members.known i d lt).types_in 0 0 (omega arith)

  -- different classes denote different definitions
  distinguished_by : Distinguishes → (a b : Candidate) → IsOfPart m a → IsOfPart m b → definition_of m (class_of a) ≡ definition_of m (class_of b) → class_of a ≡ class_of b
  distinguished_by report a b p q e = (report p.part q.part m a.remap.now b.remap.now a.class.now b.class.now h.rising p.is q.is).1 (sym p.same ∙ e ∙ q.same)

  reported_at : Distinguishes → (i j : ℕ) (d : Candidate) → i < length cs → j < length cs → definition_of m (class_at Cs i) ≡ definition_of m (class_at Cs j) → class_at Cs i ≡ class_at Cs j
  reported_at report i j d li lj e =
      let at : class_at Cs i ≡ class_of (get_or cs i d) = get_or-map class_of cs i d no_class li in
      let to : class_at Cs j ≡ class_of (get_or cs j d) = get_or-map class_of cs j d no_class lj in
      at ∙ distinguished_by report (get_or cs i d) (get_or cs j d) (h.of_parts i d li) (h.of_parts j d lj) (ap (definition_of m) (sym at) ∙ e ∙ ap (definition_of m) to) ∙ sym to

  -- where there is a class, there is a candidate
  some_candidate : (i : ℕ) → i < length Cs → Candidate
  some_candidate i lt = first_of cs (omega (arith, lt, length-map cs class_of))

  distinguished : Distinguishes → AreDistinguished m Cs
  distinguished report i j li lj e = reported_at report i j (some_candidate i li) (omega (arith, li, length-map cs class_of)) (omega (arith, lj, length-map cs class_of)) e

  module _ (places : List (Option ℕ)) (p : ArePlaces Cs places) where
    -- a conflict
    pub copies_conflict : Distinguishes → (caps : Caps) (name : ℕ) → IsFirstConflict Cs places name → IsFirstCause caps D (Conflict (type_at m name))
    copies_conflict report caps name l = first_cause-same caps (map (definition_of m) Cs) D (Conflict (type_at m name)) h.members.same (conflict_reported m h.rising Cs h.members.known places p (distinguished report) caps name l)

    -- one of each name
    pub copies_once : (ks : List Candidate) → classes_of ks ≡ kept_classes Cs places → AreIn ks cs → ((i : ℕ) → i < length Cs → IsEqualCopy Cs places i) → AreOnce m D ks
    copies_once ks are within equivalent =
        let members = kept_members m h.rising Cs h.members.known places p D h.members equivalent in
        record {
          copies = record {
            mentions_are = h.mentions_are;
            rising = h.rising;
            of_parts = λ i d lt. All-contains (IsOfPart m) cs (get_or ks i d) h.of_parts (within (get_or ks i d) (Contains-get_or ks i d lt));
            members = subst (AreMembers m D) (sym are) members;
          };
          kept = subst (AreKept m) (sym are) (are_kept m h.rising (kept_classes Cs places) members.known (kept_rise m h.rising Cs h.members.known places p));
        }

module _ (m : Mentions) (D : List Definition) (cs : List Candidate) (h : AreOnce m D cs) where
  abbrev Ks : List NumberedClass
  Ks = classes_of cs

  abbrev E : List Definition
  E = map (definition_of m) Ks

  same : AreSame E D
  same = h.copies.members.same

  pub once_own : m ≡ mentions E
  once_own = h.copies.mentions_are ∙ mentions-same D E (λ d. (same d).1) (λ d. (same d).0)

  pub once_apart : AreDistinct E
  once_apart = definitions_differ m h.copies.rising Ks h.copies.members.known h.kept.rise

  -- a cycle
  pub once_cycle : (caps : Caps) (i : ℕ) → IsFirstCycle m Ks i → IsFirstCause caps D (Cycle (type_at m (name_number Ks i)))
  once_cycle caps i f = first_cause-same caps E D (Cycle (type_at m (name_number Ks i))) same (cycle_reported m h.copies.rising Ks h.copies.members.known h.kept.rise caps i f)

  -- the first cap, if one is exceeded
  by_cap : (caps : Caps) (found : Option ℕ) → MatchOption found (IsGood caps E) (IsOfCap (IsFirstCause caps E)) → MatchOption found (IsGood caps D) (IsOfCap (IsFirstCause caps D))
  by_cap caps None good = IsGood-within D E (λ d. (same d).1) caps good
  by_cap caps (Some n) distinguished = record { cap = distinguished.cap; number_is = distinguished.number_is; holds = first_cause-same caps E D _ same distinguished.holds }

  pub once_cap : (caps : Caps) (found : Option ℕ) → AreAcyclic m Ks → found ≡ first_over caps m Ks → MatchOption found (IsGood caps D) (IsOfCap (IsFirstCause caps D))
  once_cap caps found acyclic is = by_cap caps found (found_cap caps m Ks once_apart once_own h.copies.rising h.copies.members.known (consistent m h.copies.rising Ks h.copies.members.known h.kept.rise) acyclic found is)

  -- the depths of the classes are those of all definitions
  pub once_depths : (by_name : List (Option ℕ)) → AreAcyclic m Ks → AreDepthsByName m E by_name → AreDepthsByName m D by_name
  once_depths by_name acyclic h = depths_same m E D by_name same acyclic h
