use Rattle.dexmerge.proofs.Common.{List, map, sym, subst, Collection, IsGood, greatest_caps, definition_of, AreDepthsByName}
use Rattle.dexmerge.specs.{all_parts, all_definitions}
use Rattle.dexmerge.specs.internal.Collecting.{AreOneOfEach}
use Rattle.dexmerge.specs.internal.Unions.{IsChecked}
use Rattle.dexmerge.proofs.Collected.{checked_parts, are_mergeable, collection_is, depths_are}
use Rattle.dexmerge.proofs.merging.merge_all.Goals as goal
use Rattle.dexmerge.proofs.merging.merge_all.Goals.{In_ok-classes}

-- the parts can be merged under the greatest caps
checked : (c : In_ok-classes) → IsChecked greatest_caps (all_parts c.args.owned.items c.args.files.now) c.in_ok-numbering.numbering c.deref-2.result.now
checked c = checked_parts c.args.caps.now c.args.owned.items c.deref.result.now c.args.files.now _ _ c.deref-2.result.now c.are_caps.ensures c.deref.ensures.value c.deref-2.ensures.value c.in_ok-numbering.ensures.good

-- and these are their classes, one of each name
each : (c : In_ok-classes) → AreOneOfEach c.in_ok-numbering.numbering (all_definitions c.args.owned.items c.args.files.now) c.in_ok-classes.classes.items
each c = c.in_ok-classes.ensures c.in_ok-numbering.numbering (sym c.count-types.ensures) (checked c)

pub collect_classes-requires : goal.collect_classes-requires
collect_classes-requires c = (
  c.in_ok-numbering.numbering,
  sym c.count-types.ensures,
  checked_parts c.args.caps.now c.args.owned.items c.deref.result.now c.args.files.now _ _ c.deref-2.result.now c.are_caps.ensures c.deref.ensures.value c.deref-2.ensures.value c.in_ok-numbering.ensures.good,
)

pub of_known-requires-clause-mergeable : goal.of_known-requires-clause-mergeable
of_known-requires-clause-mergeable c =
    let at = (goal.at.of_known-requires-clause-mergeable c).In_ok-classes in
    are_mergeable _ _ c.in_ok-classes.classes.items (checked at).joined.mentions_are (checked at).good (each at)

pub of_known-requires-clause-depths : goal.of_known-requires-clause-depths
of_known-requires-clause-depths c =
    let at = (goal.at.of_known-requires-clause-depths c).In_ok-classes in
    let m = c.in_ok-numbering.numbering in
    let depths = c.in_ok-numbering.depths.items in
    let known : AreDepthsByName m (all_definitions c.args.owned.items c.args.files.now) depths = subst (λ (l : List Collection). AreDepthsByName m (all_definitions l c.args.files.now) depths) c.deref.ensures.value c.in_ok-numbering.ensures.depths in
    subst (AreDepthsByName m (map (definition_of m) c.in_ok-classes.classes.items)) (sym c.deref-3.ensures.value) (depths_are m (all_definitions c.args.owned.items c.args.files.now) c.in_ok-classes.classes.items depths (checked at).good (each at) known)

pub returns-clause-merged : goal.returns-clause-merged
returns-clause-merged c =
    record {
      good = subst (λ (l : List Collection). IsGood c.args.caps.now (all_definitions l c.args.files.now)) c.deref.ensures.value c.in_ok-numbering.ensures.good.good;
      collection = collection_is _ _ c.in_ok-classes.classes.items c.in_ok-of_known.field-0 (each ((goal.at.returns-clause-merged c).In_ok-classes)) c.in_ok-of_known.ensures;
    }
