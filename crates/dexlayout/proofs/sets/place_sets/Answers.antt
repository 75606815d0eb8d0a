use Rattle.dexlayout.proofs.Common.{◌≡◌, ℕ, List, Bor, [], length, drop, refl, sym, ap, subst, ◌∙◌, arith, drop_all, class_data_section, set_items, set_section, Mentions, end, set_uses, same_set, numbers_offsets, offsets, items_numbered, set_decides, set_of, NumberedSet, ordered_of, AreAnnotations, AreItemsIn, AreWritable, ItemPlaces, parts_of_classes, collect_classes}
use Rattle.dexval.specs.declared.set.AnnotationSet.{AnnotationSet}
use Rattle.dexlayout.proofs.Ends.{end_in_file}
use Rattle.dexlayout.proofs.SetsCollected.{set_use_offsets, length-set_use_offsets, classes_are_long}
use Rattle.dexlayout.proofs.SetsAreAt.{annotations_enough, sets_laid, sets_are, length-set_offsets}
use Rattle.dexlayout.proofs.SharedKinds.{numbers_within}
use Rattle.dexlayout.proofs.sets.place_sets.Goals as goal
use Rattle.dexlayout.proofs.sets.place_sets.Goals.{After-of-rest, In_ok-written}

-- a set by numbers
abbrev set_at : Bor AnnotationSet → NumberedSet
set_at s = set_of s.now

pub encode_written-requires-clause-enough : goal.encode_written-requires-clause-enough
encode_written-requires-clause-enough c =
    let m = c.requires.place.0 in
    let offs = c.offsets.ensures ∙ ap (λ (q : ItemPlaces). q.offsets) c.places.ensures ∙ c.requires.place.2.places_are.offsets_are in
    annotations_enough m c.args.input.now.classes.now set_at c.args.input.now.written.now (c.requires.shared m c.requires.place.1).written_are c.offsets.result.now offs

pub encode_written-requires-clause-fits : goal.encode_written-requires-clause-fits
encode_written-requires-clause-fits c =
    let m = c.requires.place.0 in
    let cs = c.args.input.now.classes.now in
    let are = (c.requires.shared m c.requires.place.1).written_are in
    let offs = c.offsets.ensures ∙ ap (λ (q : ItemPlaces). q.offsets) c.places.ensures ∙ c.requires.place.2.places_are.offsets_are in
    omega (arith, (sets_laid m cs set_at c.args.input.now.written.now are c.offsets.result.now offs c.args.from c.requires.place.3).places_are.end_is, (end_in_file (ordered_of m cs) c.requires.place.1.fits).sets)

-- those that are written are encoded as the file has them
laid_are : (c : In_ok-written) (m : Mentions) → AreWritable m c.args.input.now.classes.now → AreAnnotations m c.args.input.now.classes.now c.args.annotations.now → c.args.from ≡ end (class_data_section (ordered_of m c.args.input.now.classes.now)) → AreItemsIn (set_section (ordered_of m c.args.input.now.classes.now)) c.in_ok-written.written
laid_are c m w annotations from =
    let cs = c.args.input.now.classes.now in
    let offs = c.offsets.ensures ∙ ap (λ (q : ItemPlaces). q.offsets) c.places.ensures ∙ annotations.places_are.offsets_are in
    subst (AreItemsIn (set_section (ordered_of m cs))) (sym c.in_ok-written.ensures) (sets_laid m cs set_at c.args.input.now.written.now (c.requires.shared m w).written_are c.offsets.result.now offs c.args.from from)

-- the offsets of those that are written, as they are copied
offsets_are : (c : After-of-rest) (m : Mentions) → AreItemsIn (set_section (ordered_of m c.args.input.now.classes.now)) c.in_ok-written.written → c.deref.result.now ≡ offsets (set_section (ordered_of m c.args.input.now.classes.now))
offsets_are c m laid = c.deref.ensures.value ∙ c.in_ok-offsets.ensures.items ∙ c.offsets-2.ensures ∙ ap (λ (q : ItemPlaces). q.offsets) c.places-2.ensures ∙ laid.places_are.offsets_are

pub of-rest-requires : goal.of-rest-requires
of-rest-requires c =
    let place = c.requires.place in
    let m = place.0 in
    let K = ordered_of m c.args.input.now.classes.now in
    let laid = laid_are ((goal.at.of-rest-requires c).In_ok-written) m place.1 place.2 place.3 in
    let are = c.deref.ensures.value ∙ c.in_ok-offsets.ensures.items ∙ c.offsets-2.ensures ∙ ap (λ (q : ItemPlaces). q.offsets) c.places-2.ensures ∙ laid.places_are.offsets_are in
    let count : length c.deref.result.now ≡ length (set_items K).written = omega (arith, ap (λ (l : List ℕ). length l) are, length-set_offsets K) in
    numbers_within c.args.input.now.numbers.now (length c.deref.result.now) (items_numbered K.sharing same_set set_decides (set_uses K)) ((c.requires.shared m place.1).numbers_are) count

-- the offset of each use
uses_are : (c : After-of-rest) (m : Mentions) → AreWritable m c.args.input.now.classes.now → AreItemsIn (set_section (ordered_of m c.args.input.now.classes.now)) c.in_ok-written.written → c.of-rest.result ≡ set_use_offsets (ordered_of m c.args.input.now.classes.now)
uses_are c m w laid =
    c.of-rest.ensures ∙ (λ i. numbers_offsets (((c.requires.shared m w).numbers_are) i) (offsets_are c m laid i))

pub loop-class-init : goal.loop-class-init
loop-class-init c =
    let place = c.requires.place in
    let m = place.0 in
    let here = goal.at.loop-class-init c in
    record {
      collected = refl;
      enough = omega (arith, ap (λ (l : List ℕ). length l) (uses_are here.After-of-rest m place.1 (laid_are here.In_ok-written m place.1 place.2 place.3)), length-set_use_offsets (ordered_of m c.args.input.now.classes.now), classes_are_long m c.args.input.now.classes.now);
    }

pub returns : goal.returns
returns c = λ m w annotations from.
    let cs = c.args.input.now.classes.now in
    let laid = laid_are (goal.at.returns c).In_ok-written m w annotations from in
    let nothing : parts_of_classes (drop c.loop-class.class-index cs) c.loop-class.rest ≡ [] = ap (λ l. parts_of_classes l c.loop-class.rest) (drop_all c.loop-class.class-index cs c.loop-class-test.false) in
    let all = ap (collect_classes c.loop-class.sets) (sym nothing) ∙ c.loop-class.invariant.collected ∙ ap (λ q. collect_classes q (parts_of_classes cs c.of-rest.result)) c.in_ok-sets.ensures in
    sets_are m cs c.of-rest.result c.in_ok-written.written c.loop-class.sets all (uses_are (goal.at.returns c).After-of-rest m w laid) laid
