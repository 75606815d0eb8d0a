-- One class of each name, class by class and part by part.
use Rattle.dexmerge.proofs.Common.{◌≡◌, ◌≢◌, ℕ, ◌+◌, ◌<◌, Bool, true, false, List, [], ◌∷◌, ◌++◌, length, get_or, take, drop, map, replicate, length-take, sym, ap, ◌∙◌, subst, arith, inl, inr, Option, slice_set, slice_index_or, Contains, AllZip, flat_map, Bor, false≢true, cases_eq, append_assoc, length-set, map-append, get_or-set_same, get_or-set_other, length-replicate, length-append, length-drop, get_or_default, All-nil, All-push, Contains-append_left, Contains-append_right, Contains-append_cases, AreDistinct, Text, Definition, in_class_order, Collection, definitions, AreSame, IsCollectionOf, Mentions, mentions, Caps, AreCaps, IsConsistent, IsGood, greatest_caps, IsWellFormed, AreWellFormed, IsGood-within, definitions-distinct, in_class_order-only, in_class_order-has, Contains-map_source, Contains-map, mentions-same, Contains-nil, Contains-first, Contains-later, Contains-flat_map, Maps, NumberedClass, type_at, definition_of, IsKnownClass, AreDepthsByName, AreClassesOf, AreMergeable, image_or_same, renumbered_class, MapsAllInto, StaysSame, Contains-push_cases, Contains-push, AreAmong-append, AreAmong-refl, zip_at}
use Rattle.std.proofs.lemmas.List.Quantifiers.{all_pairs_push}
use Rattle.dexmerge.specs.{all_parts}
use Rattle.dexmerge.specs.internal.Collecting.{IsPartOf, ArePartsOf, AreCollected, IsAdded, AreOneOfEach}
use Rattle.dexmerge.specs.declared.class_union.Collected.{Collected}
use Rattle.dexmerge.specs.internal.Unions.{IsChecked}
use Rattle.dexmerge.proofs.CapLaws.{good_greatest}
use Rattle.dexmerge.proofs.CycleLaws.{depths_same}
use Rattle.dexmerge.proofs.PlanChecked.{none_named}
use Rattle.dexmerge.proofs.PartMembers.{KeepMeaning, MapClasses, remapped_class, parts_more}

-- the names of classes
abbrev pub names_of : List NumberedClass → List ℕ
names_of cs = map (λ c. c.name) cs

-- no class yet
pub none_collected : (m : Mentions) (types : ℕ) (marks : List Bool) → length m.types ≡ types → marks ≡ replicate types false → AreCollected m [] [] marks
none_collected m types marks count none = record {
  count = ap length none ∙ length-replicate types false ∙ sym count;
  known = All-nil (IsKnownClass m);
  formed = λ d c. absurd (Contains-nil d c);
  within = λ d c. absurd (Contains-nil d c);
  names = λ d c. absurd (Contains-nil d c);
  distinct = λ i j d less lt. absurd (omega (arith, lt));
  marked = λ t e. absurd (false≢true (sym (none_named types t) ∙ ap (λ (l : List Bool). get_or l t false) (sym none) ∙ e));
  all_marked = λ t c. absurd (Contains-nil t c);
}

-- the same definitions
pub collected_same : (m : Mentions) (D E : List Definition) (cs : List NumberedClass) (marks : List Bool) → AreSame D E → AreCollected m D cs marks → AreCollected m E cs marks
collected_same m D E cs marks same h = record {
  count = h.count;
  known = h.known;
  formed = λ d c. h.formed d ((same d).1 c);
  within = λ d c. (same d).0 (h.within d c);
  names = λ d c. h.names d ((same d).1 c);
  distinct = h.distinct;
  marked = h.marked;
  all_marked = h.all_marked;
}

module _ (m : Mentions) (D : List Definition) (cs : List NumberedClass) (marks : List Bool) (h : AreCollected m D cs marks) (c : NumberedClass) (formed : IsWellFormed (definition_of m c)) where
  abbrev d : Definition
  d = definition_of m c

  all_formed : AreWellFormed (D ++ d ∷ [])
  all_formed e has = elim (Contains-push_cases D d e has) [ inl before ↦ h.formed e before | inr same ↦ subst IsWellFormed same formed ]

  -- a class whose name is there
  pub kept_collected : slice_index_or marks c.name false ≡ true → AreCollected m (D ++ d ∷ []) cs marks
  kept_collected there =
      let s = Contains-map_source (λ (x : NumberedClass). x.name) cs c.name (h.marked c.name there) in
      record {
        count = h.count;
        known = h.known;
        formed = all_formed;
        within = λ e has. Contains-append_left D (d ∷ []) e (h.within e has);
        names = λ e has. elim (Contains-push_cases D d e has) [ inl before ↦ h.names e before | inr same ↦ (s.0, s.1, ap (type_at m) s.2 ∙ ap (λ (x : Definition). x.0) same) ];
        distinct = h.distinct;
        marked = h.marked;
        all_marked = h.all_marked;
      }

  names_more : names_of (cs ++ c ∷ []) ≡ names_of cs ++ c.name ∷ []
  names_more = map-append (λ (x : NumberedClass). x.name) cs (c ∷ [])

  -- a class whose name is not
  pub more_collected : IsKnownClass m c → slice_index_or marks c.name false ≡ false → AreCollected m (D ++ d ∷ []) (cs ++ c ∷ []) (slice_set marks c.name true)
  more_collected known fresh = record {
    count = length-set marks c.name true ∙ h.count;
    known = All-push (IsKnownClass m) cs c h.known known;
    formed = all_formed;
    within = λ e has. elim (Contains-append_cases (map (definition_of m) cs) (d ∷ []) e (subst (λ (l : List Definition). Contains l e) (map-append (definition_of m) cs (c ∷ [])) has)) [
      | inl before ↦ Contains-append_left D (d ∷ []) e (h.within e before)
      | inr last ↦ Contains-append_right D (d ∷ []) e last
    ];
    names = λ e has. elim (Contains-push_cases D d e has) [
      | inl before ↦ (let x = h.names e before in (x.0, Contains-append_left cs (c ∷ []) x.0 x.1, x.2))
      | inr same ↦ (c, Contains-push cs c, ap (λ (x : Definition). x.0) same)
    ];
    distinct = subst AreDistinct (sym names_more) (all_pairs_push (λ x y. x ≢ y) (names_of cs) c.name h.distinct
        (λ k e lt same. false≢true (sym fresh ∙ h.all_marked c.name (k, lt, get_or_default (names_of cs) k c.name e lt ∙ same))));
    marked = λ t e. subst (λ (l : List ℕ). Contains l t) (sym names_more) (elim (cases_eq t c.name) [
      | inl same ↦ subst (Contains (names_of cs ++ c.name ∷ [])) (sym same) (Contains-push (names_of cs) c.name)
      | inr other ↦ Contains-append_left (names_of cs) (c.name ∷ []) t (h.marked t (sym (get_or-set_other marks c.name t true false other) ∙ e))
    ]);
    all_marked = λ t has. elim (cases_eq t c.name) [
      | inl same ↦ ap (λ (k : ℕ). get_or (slice_set marks c.name true) k false) same ∙ get_or-set_same marks c.name true false (omega (arith, known.types_in 0 0 (omega arith), h.count))
      | inr other ↦ get_or-set_other marks c.name t true false other ∙ h.all_marked t (elim (Contains-push_cases (names_of cs) c.name t (subst (λ (l : List ℕ). Contains l t) names_more has)) [ inl before ↦ before | inr same ↦ absurd (other (sym same)) ])
    ];
  }

-- a class that is pushed, or one that is not
pub added_new : (c : NumberedClass) (old new : Collected) → slice_index_or old.is_name.items c.name false ≡ false → new.classes.items ≡ old.classes.items ++ c ∷ [] → new.is_name.items ≡ slice_set old.is_name.items c.name true → IsAdded c old new
added_new c old new fresh classes names m D h known formed =
    subst (λ (l : List NumberedClass). AreCollected m (D ++ definition_of m c ∷ []) l new.is_name.items) (sym classes)
    (subst (λ (l : List Bool). AreCollected m (D ++ definition_of m c ∷ []) (old.classes.items ++ c ∷ []) l) (sym names) (more_collected m D old.classes.items old.is_name.items h c formed known fresh))

pub added_same : (c : NumberedClass) (old : Collected) → slice_index_or old.is_name.items c.name false ≡ true → IsAdded c old old
added_same c old there m D h known formed = kept_collected m D old.classes.items old.is_name.items h c formed there

-- ---- the classes of a part

module _ (keep : KeepMeaning) (maps_to : MapClasses) (m : Mentions) (K : Collection) (r : Maps) (p : IsPartOf m K r) (formed : AreWellFormed (definitions K)) where
  abbrev pub own : Mentions
  own = mentions (definitions K)

  -- remapped, a class of the part denotes the same
  part_stays : (c : NumberedClass) → IsKnownClass own c → StaysSame own m r c
  part_stays c known = keep own m r c p.are_mapped.are_mapped (remapped_class maps_to K r c p.are_mapped.all known) known

  -- it has a mark
  pub name_within : (c : NumberedClass) (marks : List Bool) → IsKnownClass own c → length marks ≡ length m.types → image_or_same r.types c.name < length marks
  name_within c marks known count = omega (arith, (part_stays c known).known.types_in 0 0 (omega arith), count)

  -- one class of the part more
  pub part_more : (D : List Definition) (xs : List NumberedClass) (c : NumberedClass) (old new : Collected) → IsKnownClass own c → Contains (definitions K) (definition_of own c) → IsAdded (renumbered_class r c) old new → AreCollected m (D ++ map (definition_of own) xs) old.classes.items old.is_name.items
      → AreCollected m (D ++ map (definition_of own) (xs ++ c ∷ [])) new.classes.items new.is_name.items
  part_more D xs c old new known has added h =
      let same : definition_of m (renumbered_class r c) ≡ definition_of own c = (part_stays c known).same in
      let next : (D ++ map (definition_of own) xs) ++ definition_of m (renumbered_class r c) ∷ [] ≡ D ++ map (definition_of own) (xs ++ c ∷ []) =
      append_assoc D (map (definition_of own) xs) (definition_of m (renumbered_class r c) ∷ []) ∙ ap (λ (x : Definition). D ++ (map (definition_of own) xs ++ x ∷ [])) same
      ∙ ap (λ (l : List Definition). D ++ l) (sym (map-append (definition_of own) xs (c ∷ []))) in
      subst (λ (l : List Definition). AreCollected m l new.classes.items new.is_name.items) next (added m (D ++ map (definition_of own) xs) h (part_stays c known).known (subst IsWellFormed (sym same) (formed (definition_of own c) has)))

-- a class of a part denotes one of its definitions
pub class_is_member : (K : Collection) (ps : List NumberedClass) (c : NumberedClass) → AreClassesOf K ps → Contains ps c → Contains (definitions K) (definition_of (mentions (definitions K)) c)
class_is_member K ps c are has =
    let own = mentions (definitions K) in
    in_class_order-only (definitions K) (definition_of own c) (subst (λ (l : List Definition). Contains l (definition_of own c)) are.are (Contains-map (definition_of own) ps c has))

-- all classes of a part
pub part_done : (m : Mentions) (D : List Definition) (K : Collection) (ps cs : List NumberedClass) (marks : List Bool) → AreClassesOf K ps → AreCollected m (D ++ map (definition_of (mentions (definitions K))) ps) cs marks → AreCollected m (D ++ definitions K) cs marks
part_done m D K ps cs marks are h =
    let ordered = subst (λ (l : List Definition). AreCollected m (D ++ l) cs marks) are.are h in
    collected_same m (D ++ in_class_order (definitions K)) (D ++ definitions K) cs marks
    (λ d. (AreAmong-append D (in_class_order (definitions K)) D (definitions K) (AreAmong-refl D) (in_class_order-only (definitions K)) d, AreAmong-append D (definitions K) D (in_class_order (definitions K)) (AreAmong-refl D) (λ e. in_class_order-has (definitions K) e (definitions-distinct K)) d)) ordered

-- ---- all of them

-- where no name has two definitions, the classes denote all of them
pub one_of_each : (m : Mentions) (D : List Definition) (cs : List NumberedClass) (marks : List Bool) → IsConsistent D → AreCollected m D cs marks → AreOneOfEach m D cs
one_of_each m D cs marks consistent h = record {
  known = h.known;
  formed = h.formed;
  same = λ d. (
    h.within d,
    λ has.
        let x = h.names d has in
        let there : Contains (map (definition_of m) cs) (definition_of m x.0) = Contains-map (definition_of m) cs x.0 x.1 in
        subst (Contains (map (definition_of m) cs)) (λ i. (x.2 i, (consistent d.0 (definition_of m x.0).1 d.1 (subst (λ (n : Text). Contains D (n, (definition_of m x.0).1)) x.2 (h.within (definition_of m x.0) there)) has) i)) there,
  );
  distinct = h.distinct;
}

-- they make a program
pub are_mergeable : (m : Mentions) (D : List Definition) (cs : List NumberedClass) → m ≡ mentions D → IsGood greatest_caps D → AreOneOfEach m D cs → AreMergeable m cs
are_mergeable m D cs own good h =
    let E = map (definition_of m) cs in
    record {
      known = h.known;
      mentions_are = own ∙ mentions-same D E (λ d. (h.same d).1) (λ d. (h.same d).0);
      names_differ = h.distinct;
      good = IsGood-within E D (λ d. (h.same d).0) greatest_caps good;
      formed = λ d has. h.formed d ((h.same d).0 has);
    }

-- the depths of the definitions are theirs
pub depths_are : (m : Mentions) (D : List Definition) (cs : List NumberedClass) (by_name : List (Option ℕ)) → IsGood greatest_caps D → AreOneOfEach m D cs → AreDepthsByName m D by_name → AreDepthsByName m (map (definition_of m) cs) by_name
depths_are m D cs by_name good h known = depths_same m D (map (definition_of m) cs) by_name (λ d. ((h.same d).1, (h.same d).0)) good.acyclic known

-- of just the definitions
pub collection_is : (m : Mentions) (D : List Definition) (cs : List NumberedClass) (K : Collection) → AreOneOfEach m D cs → IsCollectionOf (map (definition_of m) cs) K → IsCollectionOf D K
collection_is m D cs K h k name c = (λ e. (h.same (name, c)).0 ((k name c).0 e), λ has. (k name c).1 ((h.same (name, c)).1 has))

-- what is checked under some caps is so under the greatest
checked_greatest : (caps : Caps) (parts : List Collection) (m : Mentions) (remaps : List Maps) → AreCaps caps → IsChecked caps parts m remaps → IsChecked greatest_caps parts m remaps
checked_greatest caps parts m remaps are j = record { joined = j.joined; good = good_greatest caps (flat_map definitions parts) are j.good }

-- the same of owned parts and maps that are equal to those
pub checked_parts : (caps : Caps) (owned given : List Collection) (files : List (Bor Collection)) (m : Mentions) (found remaps : List Maps) → AreCaps caps → given ≡ owned → remaps ≡ found →
    IsChecked caps (all_parts given files) m found → IsChecked greatest_caps (all_parts owned files) m remaps
checked_parts caps owned given files m found remaps are parts maps j = subst (IsChecked greatest_caps (all_parts owned files) m) (sym maps) (checked_greatest caps (all_parts owned files) m found are (subst (λ (l : List Collection). IsChecked caps (all_parts l files) m found) parts j))

-- the parts of a union
pub parts_of : (whole parts : List Collection) (m : Mentions) (remaps : List Maps) → IsChecked greatest_caps whole m remaps → (given : List Maps) → ((K : Collection) → Contains parts K → Contains whole K) → length given ≡ length parts → AllZip (λ part remap. MapsAllInto (mentions (definitions part)) m remap) parts given → ArePartsOf m parts given
parts_of whole parts m remaps j given within count are_mapped = record { count = count; each = each_part parts given within are_mapped }
  where
    each_part : (Ks : List Collection) (rs : List Maps) → ((K : Collection) → Contains Ks K → Contains whole K) → AllZip (λ part remap. MapsAllInto (mentions (definitions part)) m remap) Ks rs → AllZip (IsPartOf m) Ks rs
    each_part [] [] in_whole h = tt
    each_part (K ∷ Ks) (r ∷ rs) in_whole h = (
      record {
        whole = flat_map definitions whole;
        mentions_are = j.joined.mentions_are;
        rising = j.joined.rising;
        good = j.good;
        within = λ d c. Contains-flat_map definitions whole K d (in_whole K (Contains-first K Ks)) c;
        are_mapped = h.0;
      },
      each_part Ks rs (λ L c. in_whole L (Contains-later K L Ks c)) h.1,
    )
    each_part _ _ in_whole h = absurd h

-- a list that goes with two others goes with each, cut there
zip_split : {A B : Type 0} (R : A → B → Type 0) (xs ys : List A) (zs : List B) → AllZip R (xs ++ ys) zs → AllZip R xs (take (length xs) zs) × AllZip R ys (drop (length xs) zs)
zip_split R [] ys zs h = (tt, h)
zip_split R (x ∷ xs) ys [] h = absurd h
zip_split R (x ∷ xs) ys (z ∷ zs) h = let rest = zip_split R xs ys zs h.1 in ((h.0, rest.0), rest.1)

module _ (owned files : List Collection) (m : Mentions) (remaps : List Maps) (j : IsChecked greatest_caps (owned ++ files) m remaps) where
  halves : AllZip (λ part remap. MapsAllInto (mentions (definitions part)) m remap) owned (take (length owned) remaps) × AllZip (λ part remap. MapsAllInto (mentions (definitions part)) m remap) files (drop (length owned) remaps)
  halves = zip_split (λ part remap. MapsAllInto (mentions (definitions part)) m remap) owned files remaps j.joined.are_mapped

  both : length remaps ≡ length owned + length files
  both = j.joined.count ∙ length-append owned files

  -- those that are owned
  pub owned_parts : ArePartsOf m owned (take (length owned) remaps)
  owned_parts = parts_of (owned ++ files) owned m remaps j (take (length owned) remaps) (λ K c. Contains-append_left owned files K c) (omega (arith, length-take (length owned) remaps, both)) halves.0

  -- and those that are not
  pub file_parts : ArePartsOf m files (drop (length owned) remaps)
  file_parts = parts_of (owned ++ files) files m remaps j (drop (length owned) remaps) (λ K c. Contains-append_right owned files K c) (omega (arith, length-drop (length owned) remaps, both)) halves.1

-- the part at a place
pub part_is : (m : Mentions) (parts : List Collection) (remaps : List Maps) (i : ℕ) (K : Collection) (r : Maps) → ArePartsOf m parts remaps → i < length parts → K ≡ get_or parts i K → r ≡ get_or remaps i r → IsPartOf m K r
part_is m parts remaps i K r h lt at to = subst (λ (L : Collection). IsPartOf m L r) (sym at) (subst (IsPartOf m (get_or parts i K)) (sym to) (zip_at (IsPartOf m) parts remaps i K r h.each lt))

-- the definitions of one part more
pub more_parts : (m : Mentions) (D : List Definition) (parts : List Collection) (i : ℕ) (K : Collection) (cs : List NumberedClass) (marks : List Bool) → i < length parts → K ≡ get_or parts i K → AreCollected m ((D ++ flat_map definitions (take i parts)) ++ definitions K) cs marks → AreCollected m (D ++ flat_map definitions (take (i + 1) parts)) cs marks
more_parts m D parts i K cs marks lt at h =
    subst (λ (l : List Definition). AreCollected m l cs marks) (append_assoc D (flat_map definitions (take i parts)) (definitions K) ∙ ap (λ (l : List Definition). D ++ l) (sym (parts_more parts i K lt ∙ ap (λ (L : Collection). flat_map definitions (take i parts) ++ definitions L) (sym at)))) h
