use Rattle.dexmerge.proofs.Common.{◌∙◌, ℕ, ◌<◌, [], get_or, sym, ap, subst, arith, Text, AreDepths, IsFirstCause, Cycle}
use Rattle.dexorder.specs.EqualLists.{AreFirstEqual}
use Rattle.dexmerge.specs.{class_of, classes_of}
use Rattle.dexmerge.specs.declared.candidates.Candidate.{Candidate}
use Rattle.dexmerge.specs.internal.Cycles.{HaveDepths, IsFirstCycle}
use Rattle.dexmerge.proofs.CandidatePlaces.{hierarchy_of, names_below, count_classes, name_at_place}
use Rattle.dexmerge.proofs.CycleLaws.{kept_below, first_is, depths_are}
use Rattle.dexmerge.proofs.MergeLaws.{once_cycle}
use Rattle.dexmerge.proofs.union_checks.class_depths.Goals as goal
use Rattle.dexmerge.proofs.union_checks.class_depths.Goals.{In-Some}

pub depths_with_firsts-requires-clause-names : goal.depths_with_firsts-requires-clause-names
depths_with_firsts-requires-clause-names c =
    let cs = classes_of c.args.classes.now in
    names_below c.args.classes.now c.count-types.result (λ i d lt. subst (λ (n : ℕ). (get_or cs i d).name < n) (sym c.count-types.ensures) (kept_below c.args.numbering.now cs c.requires.once.1.kept i d lt))

pub depths_with_firsts-requires-clause-firsts : goal.depths_with_firsts-requires-clause-firsts
depths_with_firsts-requires-clause-firsts c = subst (AreFirstEqual (λ (x : Candidate). (class_of x).interfaces) c.args.classes.now) (sym c.deref.ensures.value) c.in_ok-firsts.ensures

-- the first class without a depth
first : (c : In-Some) → IsFirstCycle c.args.numbering.now (classes_of c.args.classes.now) c.in-Some.i
first c = first_is c.args.numbering.now (classes_of c.args.classes.now) c.requires.once.1.kept c.in_ok-depths.ensures.classes (hierarchy_of c.args.classes.now c.in_ok-depths.ensures.classes c.in_ok-depths.ensures.are) c.deref-2.result.now
    (subst (AreDepths c.in_ok-depths.ensures.classes) (sym c.deref-2.ensures.value) c.in_ok-depths.ensures.found) c.in-Some.i c.in-Some.ensures

pub bounds-classes-i : goal.bounds-classes-i
bounds-classes-i c = omega (arith, (first (goal.at.bounds-classes-i c).In-Some).within, count_classes c.args.classes.now)

pub typ-requires : goal.typ-requires
typ-requires c =
    let lt = (first (goal.at.typ-requires c).In-Some).within in
    omega (arith, c.requires.once.1.kept.named.names c.in-Some.i lt, c.name.ensures ∙ name_at_place c.args.classes.now c.in-Some.i c.index-classes-i.result (omega (arith, lt, count_classes c.args.classes.now)) c.index-classes-i.is)

pub returns-in-Some-clause-fault : goal.returns-in-Some-clause-fault
returns-in-Some-clause-fault c = λ caps D h.
    let is = first (goal.at.returns-in-Some-clause-fault c).In-Some in
    let name = c.name.ensures ∙ name_at_place c.args.classes.now c.in-Some.i c.index-classes-i.result (omega (arith, is.within, count_classes c.args.classes.now)) c.index-classes-i.is in
    subst (λ (t : Text). IsFirstCause caps D (Cycle t)) (sym (c.in_ok-of-in-Some.ensures ∙ sym (c.typ.ensures.is []) ∙ ap (λ n. get_or c.args.numbering.now.types n []) name)) (once_cycle c.args.numbering.now D c.args.classes.now h caps c.in-Some.i is)

pub returns-clause-depths : goal.returns-clause-depths
returns-clause-depths c = λ m kept. subst (HaveDepths m (classes_of c.args.classes.now)) c.deref-2.ensures.value
    (depths_are m (classes_of c.args.classes.now) kept c.in_ok-depths.ensures.classes (hierarchy_of c.args.classes.now c.in_ok-depths.ensures.classes c.in_ok-depths.ensures.are) c.deref-2.result.now
    (subst (AreDepths c.in_ok-depths.ensures.classes) (sym c.deref-2.ensures.value) c.in_ok-depths.ensures.found) c.in-None.ensures)
