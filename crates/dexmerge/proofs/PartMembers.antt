-- The definitions of parts, one part after the other.
use Rattle.dexmerge.proofs.Common.{◌≡◌, ℕ, Bor, ◌+◌, ◌<◌, List, [], ◌∷◌, ◌++◌, length, get_or, take, map, sym, ap, ◌∙◌, subst, inl, inr, Contains, AllZip, flat_map, take_more, map-append, append-nil, get_or-map, flat_map-append, All-append, All-map, All-nil, Contains-append_cases, Definition, Collection, definitions, AreWellFormed, in_class_order, Mentions, mentions, text_cmp, proto_cmp, field_cmp, method_cmp, Contains-nil, mentions-rising, rises-from_Rises, definitions-distinct, in_class_order-only, in_class_order-has, AreRising, Maps, AllMapTo, MapsAll, NumberedClass, definition_of, IsKnownClass, AreClassesOf, renumbered_class, MapsAllInto, IsMappedClass, StaysSame, AreAmong-append, zip_at, map_both}
use Rattle.dexmerge.specs.{AreMembers, IsOfPart}
use Rattle.dexmerge.specs.declared.candidates.Candidate.{Candidate}

-- no part yet
pub no_members : (m : Mentions) → AreMembers m [] []
no_members m = record {
  known = All-nil (IsKnownClass m);
  same = λ d. (λ c. c, λ c. c);
  formed = λ d c. absurd (Contains-nil d c);
}

-- classes of which each symbol maps to the same one denote the same
abbrev pub KeepMeaning : Type 0
KeepMeaning = (m n : Mentions) (r : Maps) (c : NumberedClass) → AllMapTo m n r → IsMappedClass r c → IsKnownClass m c → StaysSame m n r c

-- where all symbols have images, those of a class do
abbrev pub MapClasses : Type 0
MapClasses = (m : Mentions) (r : Maps) (c : NumberedClass) → AreRising m → MapsAll m r → IsKnownClass m c → IsMappedClass r c

-- what is mentioned rises
pub mentions_rise : (D : List Definition) → AreRising (mentions D)
mentions_rise D =
    let h = mentions-rising D in
    record {
      texts_rise = rises-from_Rises text_cmp (mentions D).texts h.texts;
      types_rise = rises-from_Rises text_cmp (mentions D).types h.types;
      protos_rise = rises-from_Rises proto_cmp (mentions D).protos h.protos;
      fields_rise = rises-from_Rises field_cmp (mentions D).fields h.fields;
      methods_rise = rises-from_Rises method_cmp (mentions D).methods h.methods;
    }

-- of a class of a part each symbol has an image
pub remapped_class : MapClasses → (K : Collection) (r : Maps) (c : NumberedClass) → MapsAll (mentions (definitions K)) r → IsKnownClass (mentions (definitions K)) c → IsMappedClass r c
remapped_class maps_to K r c all known = maps_to (mentions (definitions K)) r c (mentions_rise (definitions K)) all known

module _ (keep : KeepMeaning) (maps_to : MapClasses) (m : Mentions) (K : Collection) (r : Maps) (are_mapped : MapsAllInto (mentions (definitions K)) m r) where
  abbrev own : Mentions
  own = mentions (definitions K)

  -- a class of the part stays the same
  stays : (c : NumberedClass) → IsKnownClass own c → StaysSame own m r c
  stays c known = keep own m r c are_mapped.are_mapped (remapped_class maps_to K r c are_mapped.all known) known

  -- one part more
  pub members_more : (D : List Definition) (cs ps : List NumberedClass) → AreMembers m D cs → AreClassesOf K ps → AreWellFormed (definitions K) → AreMembers m (D ++ definitions K) (cs ++ map (renumbered_class r) ps)
  members_more D cs ps h are formed =
      let remapped : map (definition_of m) (map (renumbered_class r) ps) ≡ in_class_order (definitions K) = map_both (renumbered_class r) (definition_of m) (definition_of own) ps (λ i d lt. (stays (get_or ps i d) (are.known i d lt)).same) ∙ are.are in
      let all : map (definition_of m) (cs ++ map (renumbered_class r) ps) ≡ map (definition_of m) cs ++ in_class_order (definitions K) = map-append (definition_of m) cs (map (renumbered_class r) ps) ∙ ap (λ (l : List Definition). map (definition_of m) cs ++ l) remapped in
      record {
        known = All-append (IsKnownClass m) cs (map (renumbered_class r) ps) h.known (All-map (IsKnownClass m) (renumbered_class r) ps (λ i d lt. (stays (get_or ps i d) (are.known i d lt)).known));
        same = λ d. (
          λ c. AreAmong-append (map (definition_of m) cs) (in_class_order (definitions K)) D (definitions K) (λ e. (h.same e).0) (in_class_order-only (definitions K)) d (subst (λ (l : List Definition). Contains l d) all c),
          λ c. subst (λ (l : List Definition). Contains l d) (sym all) (AreAmong-append D (definitions K) (map (definition_of m) cs) (in_class_order (definitions K)) (λ e. (h.same e).1) (λ e. in_class_order-has (definitions K) e (definitions-distinct K)) d c),
        );
        formed = λ d c. elim (Contains-append_cases D (definitions K) d c) [ inl first ↦ h.formed d first | inr last ↦ formed d last ];
      }

-- a class of a part is known
pub class_known : (K : Collection) (ps : List NumberedClass) (c : NumberedClass) → AreClassesOf K ps → Contains ps c → IsKnownClass (mentions (definitions K)) c
class_known K ps c are has = subst (IsKnownClass (mentions (definitions K))) has.2 (are.known has.0 c has.1)

-- a class of a part, and maps of the part into the whole
pub of_part : KeepMeaning → MapClasses → (m : Mentions) (K : Collection) (c : Candidate) → MapsAllInto (mentions (definitions K)) m c.remap.now → IsKnownClass (mentions (definitions K)) c.class.now → IsOfPart m c
of_part keep maps_to m K c are_mapped known =
    record {
      part = (mentions (definitions K));
      rising = mentions_rise (definitions K);
      is = record { are_mapped = are_mapped.are_mapped; remapped = remapped_class maps_to K c.remap.now c.class.now are_mapped.all known; known = known };
      same = (stays keep maps_to m K c.remap.now are_mapped c.class.now known).same;
    }

-- the definitions of one part more
pub parts_more : (Ks : List Collection) (i : ℕ) (K : Collection) → i < length Ks → flat_map definitions (take (i + 1) Ks) ≡ flat_map definitions (take i Ks) ++ definitions (get_or Ks i K)
parts_more Ks i K lt = ap (flat_map definitions) (take_more Ks i K lt) ∙ flat_map-append definitions (take i Ks) (get_or Ks i K ∷ []) ∙ ap (λ (l : List Definition). flat_map definitions (take i Ks) ++ l) (append-nil (definitions (get_or Ks i K)))

-- the part at a place
pub part_at : (parts : List (Bor Collection)) (i : ℕ) (d : Bor Collection) → i < length parts → d ≡ get_or parts i d → d.now ≡ get_or (map (λ (p : Bor Collection). p.now) parts) i d.now
part_at parts i d lt e = ap (λ (p : Bor Collection). p.now) e ∙ sym (get_or-map (λ (p : Bor Collection). p.now) parts i d d.now lt)

-- the maps at a place map the part there into the whole
pub mapped_at : (m : Mentions) (Ks : List Collection) (remaps : List Maps) (i : ℕ) (K : Collection) (r : Maps) → i < length Ks → K ≡ get_or Ks i K → r ≡ get_or remaps i r → AllZip (λ part remap. MapsAllInto (mentions (definitions part)) m remap) Ks remaps → MapsAllInto (mentions (definitions K)) m r
mapped_at m Ks remaps i K r lt at to zip = subst (λ (L : Collection). MapsAllInto (mentions (definitions L)) m r) (sym at) (subst (MapsAllInto (mentions (definitions (get_or Ks i K))) m) (sym to) (zip_at (λ part remap. MapsAllInto (mentions (definitions part)) m remap) Ks remaps i K r zip lt))
