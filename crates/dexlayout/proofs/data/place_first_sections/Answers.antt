use Rattle.dexlayout.proofs.Common.{sym, ap, subst, ◌∙◌, Bor, set_of, NumberedSet, ItemPlaces, ordered_of, AreAnnotations}
use Rattle.dexval.specs.declared.set.AnnotationSet.{AnnotationSet}
use Rattle.dexlayout.proofs.Ends.{end_in_file}
use Rattle.dexlayout.proofs.OwnCounts.{strings_at_ranks, strings_fit}
use Rattle.dexlayout.proofs.SetsAreAt.{annotations_laid, annotations_fit}
use Rattle.dexlayout.proofs.data.place_first_sections.Goals as goal
use Rattle.dexlayout.proofs.data.place_first_sections.Goals.{In_ok-annotations}

-- a set by numbers
abbrev set_at : Bor AnnotationSet → NumberedSet
set_at s = set_of s.now

pub place_annotations-requires-clause-fits : goal.place_annotations-requires-clause-fits
place_annotations-requires-clause-fits c =
    annotations_fit c.args.input.now.numbering.now c.args.input.now.classes.now set_at c.args.input.now.written.now c.requires.written c.end.result (c.end.ensures ∙ ap (λ (q : ItemPlaces). q.end) c.places.ensures ∙ c.in_ok-type_lists.ensures.places_are.end_is) c.requires.classes.fits

-- the annotations are those of the file
annotations_are : (c : In_ok-annotations) → AreAnnotations c.args.input.now.numbering.now c.args.input.now.classes.now c.in_ok-annotations.annotations
annotations_are c =
    let from = c.end.ensures ∙ ap (λ (q : ItemPlaces). q.end) c.places.ensures ∙ c.in_ok-type_lists.ensures.places_are.end_is in
    subst (AreAnnotations c.args.input.now.numbering.now c.args.input.now.classes.now) (sym c.in_ok-annotations.ensures) (annotations_laid c.args.input.now.numbering.now c.args.input.now.classes.now set_at c.args.input.now.written.now c.requires.written c.end.result from)

pub place_static_values-requires-clause-from : goal.place_static_values-requires-clause-from
place_static_values-requires-clause-from c = c.end-2.ensures ∙ ap (λ (q : ItemPlaces). q.end) c.places-2.ensures ∙ (annotations_are ((goal.at.place_static_values-requires-clause-from c).In_ok-annotations)).places_are.end_is

pub place_strings-requires : goal.place_strings-requires
place_strings-requires c =
    let K = ordered_of c.args.input.now.numbering.now c.args.input.now.classes.now in
    let end = λ (q : ItemPlaces). q.end in
    strings_fit K c.end-3.result (c.end-3.ensures ∙ ap end c.places-3.ensures ∙ c.in_ok-static_values.ensures.places_are.end_is) (end_in_file K c.requires.classes.fits)

pub returns : goal.returns
returns c =
    let end = λ (q : ItemPlaces). q.end in
    record {
      type_lists_are = c.in_ok-type_lists.ensures;
      annotations_are = annotations_are ((goal.at.returns c).In_ok-annotations);
      static_values_are = c.in_ok-static_values.ensures;
      strings_are = strings_at_ranks (ordered_of c.args.input.now.numbering.now c.args.input.now.classes.now) c.end-3.result (c.end-3.ensures ∙ ap end c.places-3.ensures ∙ c.in_ok-static_values.ensures.places_are.end_is) c.in_ok-strings.ensures;
    }
