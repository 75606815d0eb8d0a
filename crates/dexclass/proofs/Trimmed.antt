-- Classes whose numbers are mapped to those of what they mention.
use Rattle.dexclass.proofs.Common.{◌≡◌, List, map, get_or, sym, ap, ◌∙◌, subst, All, AllZip, flat_map, All-map, Contains-get_or, Mentions, symbols_of, mentions, closed, Contains-flat_map, Marks, Maps, marked, IsUseOf, MapsMarked, map_both, parts_zip}
use Rattle.dexclass.specs.{NumberedClass, definition_of, class_uses, IsKnownClass, HaveMarked, renumbered_class, IsMappedClass, StaysSame}
use Rattle.dexclass.specs.internal.Trimming.{AreTrimmed}
use Rattle.dexclass.proofs.Mentioned.{kept_closed, is_marked}

module _ (m : Mentions) (cs : List NumberedClass) (known : All (IsKnownClass m) cs) (step : (c : NumberedClass) → IsKnownClass m c → AllZip (IsUseOf m) (class_uses c) (symbols_of (definition_of m c))) (marks : Marks) (h : HaveMarked (flat_map class_uses cs) marks) where
  -- what occurs in all classes
  zipped : AllZip (IsUseOf m) (flat_map class_uses cs) (flat_map symbols_of (map (definition_of m) cs))
  zipped = parts_zip (IsUseOf m) (IsKnownClass m) (IsKnownClass m) class_uses symbols_of (definition_of m) (λ c is also. step c is) cs known known

  -- what the marked symbols mention is what the classes mention
  pub marked_mentions : closed (marked m marks) ≡ mentions (map (definition_of m) cs)
  unfolding mentions
  marked_mentions = kept_closed m (flat_map class_uses cs) (flat_map symbols_of (map (definition_of m) cs)) marks zipped h

  -- each symbol that occurs has an image
  pub all_map_to : (r : Maps) → MapsMarked marks r → All (IsMappedClass r) cs
  all_map_to r maps_to i d lt k e within =
      let c = get_or cs i d in
      let u = get_or (class_uses c) k e in
      maps_to u.kind u.number (is_marked m (flat_map class_uses cs) (flat_map symbols_of (map (definition_of m) cs)) marks zipped h u (Contains-flat_map class_uses cs c u (Contains-get_or cs i d lt) (Contains-get_or (class_uses c) k e within)))

-- remapped, they denote the same definitions by numbers of what is kept
module _ (m n : Mentions) (r : Maps) (cs new : List NumberedClass) (stay : (c : NumberedClass) → IsMappedClass r c → IsKnownClass m c → StaysSame m n r c) (are_mapped : All (IsMappedClass r) cs) (known : All (IsKnownClass m) cs) (e : new ≡ map (renumbered_class r) cs) where
  all_stay : All (StaysSame m n r) cs
  all_stay = λ i d lt. stay (get_or cs i d) (are_mapped i d lt) (known i d lt)

  pub trimmed : n ≡ mentions (map (definition_of m) cs) → AreTrimmed (map (definition_of m) cs) n new
  trimmed is = record {
    mentions_are = is;
    same = ap (map (definition_of n)) e ∙ map_both (renumbered_class r) (definition_of n) (definition_of m) cs (λ i d lt. (all_stay i d lt).same);
    known = subst (All (IsKnownClass n)) (sym e) (All-map (IsKnownClass n) (renumbered_class r) cs (λ i d lt. (all_stay i d lt).known));
  }
