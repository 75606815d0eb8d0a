use Rattle.dexmerge.proofs.Common.{◌≡◌, ◌<◌, length, slice_set, Bool, true, length-set, ◌∙◌, ◌++◌, ◌∷◌, [], ◌+◌, List, map, take, sym, ap, subst, arith, refl, append-nil, Contains, take_all, take_more, definitions, mentions, NumberedClass, definition_of, renumbered_class, image_or_same, Definition}
use Rattle.dexpool.specs.Numberings.{Maps}
use Rattle.dexclass.specs.Renumbering.{ClassHasPlaces}
use Rattle.dexmerge.specs.declared.class_union.Collected.{Collected}
use Rattle.dexmerge.specs.internal.Collecting.{AreCollected, IsAdded}
use Rattle.dexmerge.proofs.PartMembers.{class_known}
use Rattle.dexmerge.proofs.Collected.{added_new, added_same, class_is_member, name_within, part_more, part_done}
use Rattle.dexmerge.proofs.class_union.Collected.copy_all.Goals as goal
use Rattle.dexmerge.proofs.class_union.Collected.copy_all.Goals.{then-not-has_name_of+in_ok-copy+in_ok-push, else-not-has_name_of}

pub loop-class-init : goal.loop-class-init
loop-class-init c = record {
  kept = c.in_ok-renumbering.ensures;
  count = refl;
  collected = λ m D part h. subst (λ (l : List Definition). AreCollected m l c.args.self.now.classes.items c.args.self.now.is_name.items) (sym (append-nil D)) h;
}

pub push-requires-clause-places : goal.push-requires-clause-places
push-requires-clause-places c =
    let has : Contains c.classes-classes.result.now c.class-item.result = (c.loop-class.class-index, c.loop-class-test.true, sym c.class-item.is) in
    subst (λ (r : Maps). ClassHasPlaces r c.in_ok-copy.field-0) (sym c.loop-class.invariant.kept)
    (subst (ClassHasPlaces c.args.remap.now) (sym c.in_ok-copy.ensures) (c.places_law.ensures c.requires.0 c.args.part.now c.args.remap.now c.class-item.result c.requires.1 (class_known _ _ _ c.classes-classes.ensures has) (class_is_member _ _ _ c.classes-classes.ensures has)))

pub push-requires-clause-name : goal.push-requires-clause-name
push-requires-clause-name c =
    let within =
    name_within c.renumbering_law.ensures.same c.renumbering_law.ensures.all c.requires.0 c.args.part.now c.args.remap.now c.requires.1 c.is_good.ensures.formed c.class-item.result c.loop-class.self.is_name.items
    (class_known _ c.classes-classes.result.now c.class-item.result c.classes-classes.ensures (c.loop-class.class-index, c.loop-class-test.true, sym c.class-item.is)) (c.loop-class.invariant.count ∙ c.requires.2) in
    subst (λ (r : Maps). image_or_same r.types c.in_ok-copy.field-0.name < length c.loop-class.self.is_name.items) (sym c.loop-class.invariant.kept)
    (subst (λ (x : NumberedClass). image_or_same c.args.remap.now.types x.name < length c.loop-class.self.is_name.items) (sym c.in_ok-copy.ensures) within)

pub loop-class-preserved : goal.loop-class-preserved
loop-class-preserved c =
    let x = c.class-item.result in
    let ps = c.classes-classes.result.now in
    let k = c.loop-class.class-index in
    let has : Contains ps x = (k, c.loop-class-test.true, sym c.class-item.is) in
    let more : take (k + 1) ps ≡ take k ps ++ x ∷ [] = take_more ps k x c.loop-class-test.true ∙ ap (λ (y : NumberedClass). take k ps ++ y ∷ []) (sym c.class-item.is) in
    let p : (c.if-not-has_name_of.renumbering ≡ c.args.remap.now) × (length c.if-not-has_name_of.self.is_name.items ≡ length c.loop-class.self.is_name.items) × IsAdded (renumbered_class c.args.remap.now x) c.loop-class.self c.if-not-has_name_of.self = elim c.if-not-has_name_of.branch [
      | then-not-has_name_of+in_ok-copy+in_ok-push w ↦ (
          let classes = w.in_ok-push.ensures.classes ∙ ap (λ (r : Maps). c.loop-class.self.classes.items ++ renumbered_class r w.in_ok-copy.field-0 ∷ []) c.loop-class.invariant.kept ∙ ap (λ (y : NumberedClass). c.loop-class.self.classes.items ++ renumbered_class c.args.remap.now y ∷ []) w.in_ok-copy.ensures in
          let names = w.in_ok-push.ensures.names ∙ ap (λ (r : Maps). slice_set c.loop-class.self.is_name.items (image_or_same r.types w.in_ok-copy.field-0.name) true) c.loop-class.invariant.kept ∙ ap (λ (y : NumberedClass). slice_set c.loop-class.self.is_name.items (image_or_same c.args.remap.now.types y.name) true) w.in_ok-copy.ensures in (
            w.renumbering-is ∙ w.push.ensures.kept ∙ c.loop-class.invariant.kept,
            ap (λ (s : Collected). length s.is_name.items) w.self-is ∙ ap (λ (l : List Bool). length l) names ∙ length-set c.loop-class.self.is_name.items (image_or_same c.args.remap.now.types x.name) true,
            subst (IsAdded (renumbered_class c.args.remap.now x) c.loop-class.self) (sym w.self-is) (added_new (renumbered_class c.args.remap.now x) c.loop-class.self w.push.new.self (sym c.has_name_of.ensures ∙ w.if-not-has_name_of.true) classes names),
          )
          )
      | else-not-has_name_of w ↦ (
        w.renumbering-is ∙ c.loop-class.invariant.kept,
        ap (λ (s : Collected). length s.is_name.items) w.self-is,
        subst (IsAdded (renumbered_class c.args.remap.now x) c.loop-class.self) (sym w.self-is) (added_same (renumbered_class c.args.remap.now x) c.loop-class.self (sym c.has_name_of.ensures ∙ w.if-not-has_name_of.false)),
      )
    ] in
    record {
      kept = p.0;
      count = p.1 ∙ c.loop-class.invariant.count;
      collected = λ m D part h. subst (λ (l : List NumberedClass). AreCollected m (D ++ map (definition_of (mentions (definitions c.args.part.now))) l) c.if-not-has_name_of.self.classes.items c.if-not-has_name_of.self.is_name.items) (sym more)
          (part_more c.renumbering_law.ensures.same c.renumbering_law.ensures.all m c.args.part.now c.args.remap.now part c.is_good.ensures.formed D (take k ps) x c.loop-class.self c.if-not-has_name_of.self
          (class_known _ ps x c.classes-classes.ensures has) (class_is_member _ ps x c.classes-classes.ensures has) p.2 (c.loop-class.invariant.collected m D part h));
    }

pub returns-clause-collected : goal.returns-clause-collected
returns-clause-collected c = λ m D part h.
    let ps = c.classes-classes.result.now in
    part_done m D c.args.part.now ps c.loop-class.self.classes.items c.loop-class.self.is_name.items c.classes-classes.ensures
    (subst (λ (l : List NumberedClass). AreCollected m (D ++ map (definition_of (mentions (definitions c.args.part.now))) l) c.loop-class.self.classes.items c.loop-class.self.is_name.items) (take_all c.loop-class.class-index ps (omega arith)) (c.loop-class.invariant.collected m D part h))
