use Rattle.dexlayout.proofs.Common.{sym, ap, subst, ◌∙◌, ItemPlaces, AreKnownSets, AreSets, AreWrittenSets}
use Rattle.dexlayout.proofs.data.place_data.Goals as goal
use Rattle.dexlayout.proofs.data.place_data.Goals.{In_ok-sets}

pub place_first_sections-requires-clause-written : goal.place_first_sections-requires-clause-written
place_first_sections-requires-clause-written c = subst (AreWrittenSets c.args.numbering.now c.args.classes.now) (sym c.deref.ensures.value) (c.in_ok-shared.ensures.shared _ c.requires.classes).written_are

pub place_first_sections-requires-clause-known : goal.place_first_sections-requires-clause-known
place_first_sections-requires-clause-known c = subst (AreKnownSets c.args.numbering.now) (sym c.deref.ensures.value) (c.in_ok-shared.ensures.known _ c.requires.classes)

pub place_bodies-requires : goal.place_bodies-requires
place_bodies-requires c = (c.args.numbering.now, c.requires.classes, c.end.ensures ∙ c.in_ok-first_sections.ensures.strings_are.end_is)

pub place_sets-requires-clause-place : goal.place_sets-requires-clause-place
place_sets-requires-clause-place c =
    let bodies = c.in_ok-bodies.ensures c.args.numbering.now c.requires.classes (c.end.ensures ∙ c.in_ok-first_sections.ensures.strings_are.end_is) in
    (c.args.numbering.now, c.requires.classes, c.in_ok-first_sections.ensures.annotations_are, c.end-end.ensures ∙ ap (λ (q : ItemPlaces). q.end) c.places.ensures ∙ bodies.class_data_are.places_are.end_is)

-- the sets are those of the file
sets_are : (c : In_ok-sets) → AreSets c.args.numbering.now c.args.classes.now c.in_ok-sets.sets
sets_are c =
    let bodies = c.in_ok-bodies.ensures c.args.numbering.now c.requires.classes (c.end.ensures ∙ c.in_ok-first_sections.ensures.strings_are.end_is) in
    c.in_ok-sets.ensures c.args.numbering.now c.requires.classes c.in_ok-first_sections.ensures.annotations_are (c.end-end.ensures ∙ ap (λ (q : ItemPlaces). q.end) c.places.ensures ∙ bodies.class_data_are.places_are.end_is)

pub place_back-requires : goal.place_back-requires
place_back-requires c = (c.args.numbering.now, c.requires.classes, sets_are (goal.at.place_back-requires c).In_ok-sets)

pub returns : goal.returns
returns c =
    record {
      first_sections_are = c.in_ok-first_sections.ensures;
      bodies_are = c.in_ok-bodies.ensures c.args.numbering.now c.requires.classes (c.end.ensures ∙ c.in_ok-first_sections.ensures.strings_are.end_is);
      back_are = c.in_ok-back.ensures c.args.numbering.now c.requires.classes (sets_are (goal.at.returns c).In_ok-sets);
    }
