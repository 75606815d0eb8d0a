use Rattle.dexmerge.proofs.Common.{◌≡◌, ◌<◌, ◌∙◌, ℕ, Option, List, [], sym, ap, subst, arith, length, Text, IsFirstCause, Conflict, ArePlaces}
use Rattle.dexmerge.specs.{classes_of, IsEqualCopy, IsFirstConflict, kept_classes}
use Rattle.dexmerge.proofs.CandidatePlaces.{count_classes, names_below, places_of}
use Rattle.dexmerge.proofs.MergeLaws.{copy_names, copies_conflict, copies_once}
use Rattle.dexmerge.proofs.union_checks.one_of_each.Goals as goal

pub classes_by_type-requires : goal.classes_by_type-requires
classes_by_type-requires c = names_below c.args.candidates.now c.count.result (λ i d lt. omega (arith, copy_names c.args.numbering.now c.requires.0 c.args.candidates.now c.requires.1 i d lt, c.count.ensures))

pub first_conflict-requires : goal.first_conflict-requires
first_conflict-requires c = subst (ArePlaces (classes_of c.args.candidates.now)) (sym c.deref.ensures.value) (places_of c.args.candidates.now c.in_ok-places.places.items c.in_ok-places.ensures.classes)

pub kept-requires : goal.kept-requires
kept-requires c = subst (ArePlaces (classes_of c.args.candidates.now)) (sym c.deref-in-None.ensures.value) (places_of c.args.candidates.now c.in_ok-places.places.items c.in_ok-places.ensures.classes)

pub returns-in-Some-clause-fault : goal.returns-in-Some-clause-fault
returns-in-Some-clause-fault c = λ caps D h.
    let cs = classes_of c.args.candidates.now in
    let places = c.in_ok-places.places.items in
    let least : IsFirstConflict cs places c.in-Some.name = subst (λ (l : List (Option ℕ)). IsFirstConflict cs l c.in-Some.name) c.deref.ensures.value c.in-Some.ensures in
    subst (λ (t : Text). IsFirstCause caps D (Conflict t)) (c.typ.ensures.is [] ∙ sym c.in_ok-of-in-Some.ensures) (copies_conflict c.args.numbering.now D c.args.candidates.now h places (places_of c.args.candidates.now c.in_ok-places.places.items c.in_ok-places.ensures.classes) c.same_law.ensures caps c.in-Some.name least)

pub returns-clause-kept : goal.returns-clause-kept
returns-clause-kept c = λ D h.
    let cs = classes_of c.args.candidates.now in
    let equivalent : (i : ℕ) → i < length cs → IsEqualCopy cs c.in_ok-places.places.items i = λ i lt. subst (λ (l : List (Option ℕ)). IsEqualCopy cs l i) c.deref.ensures.value (c.in-None.ensures i (omega (arith, lt, count_classes c.args.candidates.now))) in
    let are : classes_of c.in_ok-kept-in-None.field-0.items ≡ kept_classes cs c.in_ok-places.places.items = c.in_ok-kept-in-None.ensures.kept ∙ ap (kept_classes cs) c.deref-in-None.ensures.value in
    copies_once c.args.numbering.now D c.args.candidates.now h c.in_ok-places.places.items (places_of c.args.candidates.now c.in_ok-places.places.items c.in_ok-places.ensures.classes) c.in_ok-kept-in-None.field-0.items are c.in_ok-kept-in-None.ensures.within equivalent
