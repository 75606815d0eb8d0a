use Rattle.dexmerge.proofs.Common.{refl, append-nil, Definition, ◌∙◌, ◌<◌, ◌∷◌, [], ap, Bool, true, length-set, slice_set, ◌++◌, List, length, map, sym, subst, arith, Contains, map-id, YieldsList-from_vec, YieldsList-turn, YieldsList-end, definitions, mentions, NumberedClass, definition_of, renumbered_class, image_or_same}
use Rattle.dexpool.specs.Numberings.{Maps}
use Rattle.dexclass.specs.Renumbering.{ClassHasPlaces}
use Rattle.dexmerge.specs.internal.Collecting.{AreCollected}
use Rattle.dexmerge.proofs.PartMembers.{class_known}
use Rattle.dexmerge.proofs.Collected.{added_new, added_same, class_is_member, name_within, part_more, part_done}
use Rattle.dexmerge.proofs.class_union.Collected.take_all.Goals as goal
use Rattle.dexmerge.proofs.class_union.Collected.take_all.Goals.{In-Some}

-- the class is one of the part
member : (c : In-Some) → Contains c.into_classes-classes.result.items c.in-Some.class
member c =
    let t = YieldsList-turn (YieldsList-from_vec {s = c.into_iter-class-iterator.result} c.into_classes-classes.result.items c.into_iter-class-iterator.ensures.into_iter_gives.0 (omega (arith, c.into_iter-class-iterator.ensures.into_iter_gives.1))) c.loop-class.yielded c.loop-class.class-iterator c.loop-class.yielded_by c.next.result c.next.new.self c.in-Some.class c.in-Some.is c.next.ensures.steps in
    (length c.loop-class.yielded, t.0, sym t.1)

pub loop-class-init : goal.loop-class-init
loop-class-init c = record {
  kept = c.in_ok-renumbering.ensures;
  count = refl;
  collected = λ m D part h. subst (λ (l : List Definition). AreCollected m l c.args.self.now.classes.items c.args.self.now.is_name.items) (sym (append-nil D)) h;
}

pub push-requires-clause-places : goal.push-requires-clause-places
push-requires-clause-places c =
    let has = member (goal.at.push-requires-clause-places c).In-Some in
    subst (λ (r : Maps). ClassHasPlaces r c.in-Some.class) (sym c.loop-class.invariant.kept)
    (c.places_law.ensures c.requires.0 c.args.part c.args.remap.now c.in-Some.class c.requires.1 (class_known _ _ _ c.into_classes-classes.ensures has) (class_is_member _ _ _ c.into_classes-classes.ensures has))

pub push-requires-clause-name : goal.push-requires-clause-name
push-requires-clause-name c =
    subst (λ (r : Maps). image_or_same r.types c.in-Some.class.name < length c.loop-class.self.is_name.items) (sym c.loop-class.invariant.kept)
    (name_within c.renumbering_law.ensures.same c.renumbering_law.ensures.all c.requires.0 c.args.part c.args.remap.now c.requires.1 c.is_good.ensures.formed c.in-Some.class c.loop-class.self.is_name.items
    (class_known _ _ _ c.into_classes-classes.ensures (member (goal.at.push-requires-clause-name c).In-Some)) (c.loop-class.invariant.count ∙ c.requires.2))

pub loop-class-preserved-in-Continue-branch-2 : goal.loop-class-preserved-in-Continue-branch-2
loop-class-preserved-in-Continue-branch-2 c =
    let has = member (goal.at.loop-class-preserved-in-Continue-branch-2 c).In-Some in
    let x = renumbered_class c.args.remap.now c.in-Some.class in
    let classes = c.in_ok-push.ensures.classes ∙ ap (λ (r : Maps). c.loop-class.self.classes.items ++ renumbered_class r c.in-Some.class ∷ []) c.loop-class.invariant.kept in
    let names = c.in_ok-push.ensures.names ∙ ap (λ (r : Maps). slice_set c.loop-class.self.is_name.items (image_or_same r.types c.in-Some.class.name) true) c.loop-class.invariant.kept in
    record {
      kept = c.push.ensures.kept ∙ c.loop-class.invariant.kept;
      count = ap (λ (l : List Bool). length l) names ∙ length-set c.loop-class.self.is_name.items x.name true ∙ c.loop-class.invariant.count;
      collected = λ m D part h. part_more c.renumbering_law.ensures.same c.renumbering_law.ensures.all m c.args.part c.args.remap.now part c.is_good.ensures.formed D c.loop-class.yielded c.in-Some.class c.loop-class.self c.push.new.self
          (class_known _ _ _ c.into_classes-classes.ensures has) (class_is_member _ _ _ c.into_classes-classes.ensures has) (added_new x c.loop-class.self c.push.new.self (sym c.has_name_of.ensures ∙ c.if-not-has_name_of.true) classes names) (c.loop-class.invariant.collected m D part h);
    }

pub loop-class-preserved : goal.loop-class-preserved
loop-class-preserved c =
    let has = member (goal.at.loop-class-preserved c).In-Some in
    let x = renumbered_class c.args.remap.now c.in-Some.class in
    record {
      kept = c.loop-class.invariant.kept;
      count = c.loop-class.invariant.count;
      collected = λ m D part h. part_more c.renumbering_law.ensures.same c.renumbering_law.ensures.all m c.args.part c.args.remap.now part c.is_good.ensures.formed D c.loop-class.yielded c.in-Some.class c.loop-class.self c.loop-class.self
          (class_known _ _ _ c.into_classes-classes.ensures has) (class_is_member _ _ _ c.into_classes-classes.ensures has) (added_same x c.loop-class.self (sym c.has_name_of.ensures ∙ c.if-not-has_name_of.false)) (c.loop-class.invariant.collected m D part h);
    }

pub returns-clause-collected : goal.returns-clause-collected
returns-clause-collected c = λ m D part h.
    let ps = c.into_classes-classes.result.items in
    let t = YieldsList-end (YieldsList-from_vec {s = c.into_iter-class-iterator.result} ps c.into_iter-class-iterator.ensures.into_iter_gives.0 (omega (arith, c.into_iter-class-iterator.ensures.into_iter_gives.1))) c.loop-class.yielded c.loop-class.class-iterator c.loop-class.yielded_by c.next.result c.next.new.self c.in-None.is c.next.ensures.steps in
    part_done m D c.args.part ps c.loop-class.self.classes.items c.loop-class.self.is_name.items c.into_classes-classes.ensures
    (subst (λ (l : List NumberedClass). AreCollected m (D ++ map (definition_of (mentions (definitions c.args.part))) l) c.loop-class.self.classes.items c.loop-class.self.is_name.items) (sym (map-id c.loop-class.yielded) ∙ t.0) (c.loop-class.invariant.collected m D part h))
