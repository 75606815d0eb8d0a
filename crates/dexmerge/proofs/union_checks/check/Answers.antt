use Rattle.dexmerge.proofs.Common.{AreIn, ◌≡◌, ◌∙◌, Some, None, ℕ, Option, List, length, length-map, arith, ap, sym, subst, err_from_is_err_and, definition_of}
use Rattle.dexmerge.specs.{classes_of, definitions_in, referents}
use Rattle.dexmerge.specs.declared.candidates.Candidate.{Candidate}
use Rattle.dexmerge.specs.internal.Cycles.{HaveDepths}
use Rattle.dexmerge.specs.internal.CandidateLists.{AreByPart}
use Rattle.dexmerge.proofs.EqualCandidates.{still_by_part}
use Rattle.dexmerge.specs.internal.Unions.{AreCopies, AreOnce}
use Rattle.dexmerge.proofs.CandidatePlaces.{count_classes}
use Rattle.dexmerge.proofs.MergeLaws.{are_copies, once_cap, once_depths}
use Rattle.dexmerge.proofs.union_checks.check.Goals as goal
use Rattle.dexmerge.proofs.union_checks.check.Goals.{In_ok-classes, In_ok-copies, In_ok-depths}

-- the copies of all parts
copies : (c : In_ok-copies) (l : List Candidate) → l ≡ c.in_ok-copies.copies.items → AreCopies c.args.numbering.now (definitions_in c.args.parts.now) l
copies c l e = subst (AreCopies c.args.numbering.now (definitions_in c.args.parts.now)) (sym e) (are_copies (referents c.args.parts.now) c.args.numbering.now c.args.remaps.now c.in_ok-copies.copies.items c.requires (c.in_ok-copies.ensures.members c.args.numbering.now) (c.in_ok-copies.ensures.parts c.args.numbering.now))

-- one class of each name
once : (c : In_ok-classes) → AreCopies c.args.numbering.now (definitions_in c.args.parts.now) c.deref.result.now → (l : List Candidate) → l ≡ c.in_ok-classes.classes.items → AreOnce c.args.numbering.now (definitions_in c.args.parts.now) l
once c are l e = subst (AreOnce c.args.numbering.now (definitions_in c.args.parts.now)) (sym e) (c.in_ok-classes.ensures.kept (definitions_in c.args.parts.now) are)

-- their depths
have : (c : In_ok-depths) → AreOnce c.args.numbering.now (definitions_in c.args.parts.now) c.deref-2.result.now → (l : List Candidate) → l ≡ c.in_ok-classes.classes.items → HaveDepths c.args.numbering.now (classes_of l) c.in_ok-depths.depths.items
have c h l e = subst (λ (cs : List Candidate). HaveDepths c.args.numbering.now (classes_of cs) c.in_ok-depths.depths.items) (c.deref-2.ensures.value ∙ sym e) (c.in_ok-depths.ensures.depths c.args.numbering.now h.kept)

pub one_of_each-requires : goal.one_of_each-requires
one_of_each-requires c = (definitions_in c.args.parts.now, copies (goal.at.one_of_each-requires c).In_ok-copies _ c.deref.ensures.value)

pub returns-in_err-classes-clause-fault : goal.returns-in_err-classes-clause-fault
returns-in_err-classes-clause-fault c =
    let p = err_from_is_err_and c.from_residual-in_err-classes.result c.from_residual-in_err-classes.ensures.1 in
    rw (p.1, p.2) (c.in_err-classes.ensures.fault c.args.caps.now (definitions_in c.args.parts.now) (copies (goal.at.returns-in_err-classes-clause-fault c).In_ok-copies _ c.deref.ensures.value))

pub class_depths-requires-clause-parts : goal.class_depths-requires-clause-parts
class_depths-requires-clause-parts c =
    (c.args.remaps.now, subst (AreByPart c.args.remaps.now) (sym c.deref-2.ensures.value) (still_by_part c.args.remaps.now c.in_ok-copies.copies.items c.in_ok-classes.classes.items (subst (AreIn c.in_ok-classes.classes.items) c.deref.ensures.value c.in_ok-classes.ensures.within) c.in_ok-copies.ensures.remaps))

pub class_depths-requires-clause-once : goal.class_depths-requires-clause-once
class_depths-requires-clause-once c =
    let here = goal.at.class_depths-requires-clause-once c in
    (definitions_in c.args.parts.now, once here.In_ok-classes (copies here.In_ok-copies _ c.deref.ensures.value) _ c.deref-2.ensures.value)

pub returns-in_err-depths-clause-fault : goal.returns-in_err-depths-clause-fault
returns-in_err-depths-clause-fault c =
    let here = goal.at.returns-in_err-depths-clause-fault c in
    let p = err_from_is_err_and c.from_residual-in_err-depths.result c.from_residual-in_err-depths.ensures.1 in
    rw (p.1, p.2) (c.in_err-depths.ensures.fault c.args.caps.now (definitions_in c.args.parts.now) (once here.In_ok-classes (copies here.In_ok-copies _ c.deref.ensures.value) _ c.deref-2.ensures.value))

pub first_exceeded-requires-clause-parts : goal.first_exceeded-requires-clause-parts
first_exceeded-requires-clause-parts c =
    let here = goal.at.first_exceeded-requires-clause-parts c in
    (once here.In_ok-classes (copies here.In_ok-copies _ c.deref.ensures.value) _ c.deref-3.ensures.value).copies.of_parts

pub first_exceeded-requires-clause-known : goal.first_exceeded-requires-clause-known
first_exceeded-requires-clause-known c =
    let here = goal.at.first_exceeded-requires-clause-known c in
    (once here.In_ok-classes (copies here.In_ok-copies _ c.deref.ensures.value) _ c.deref-3.ensures.value).copies.members.known

pub returns-in-Some-clause-fault : goal.returns-in-Some-clause-fault
returns-in-Some-clause-fault c =
    let here = goal.at.returns-in-Some-clause-fault c in
    let one = once here.In_ok-classes (copies here.In_ok-copies _ c.deref.ensures.value) in
    once_cap c.args.numbering.now (definitions_in c.args.parts.now) c.deref-3.result.now (one _ c.deref-3.ensures.value) c.args.caps.now (Some c.in-Some.cap) (have here.In_ok-depths (one _ c.deref-2.ensures.value) _ c.deref-3.ensures.value).acyclic (sym c.in-Some.is ∙ c.first_exceeded.ensures)

pub depths_by_name-requires-clause-kept : goal.depths_by_name-requires-clause-kept
depths_by_name-requires-clause-kept c =
    let here = goal.at.depths_by_name-requires-clause-kept c in
    (c.args.numbering.now, sym c.count.ensures, (once here.In_ok-classes (copies here.In_ok-copies _ c.deref.ensures.value) _ c.deref-in-None.ensures.value).kept)

pub depths_by_name-requires-clause-count : goal.depths_by_name-requires-clause-count
depths_by_name-requires-clause-count c =
    let here = goal.at.depths_by_name-requires-clause-count c in
    let cs = c.deref-in-None.result.now in
    let all = have here.In_ok-depths (once here.In_ok-classes (copies here.In_ok-copies _ c.deref.ensures.value) _ c.deref-2.ensures.value) cs c.deref-in-None.ensures.value in
    omega (arith, ap (λ (l : List (Option ℕ)). length l) c.deref-in-None-2.ensures.value, all.are.count, length-map (classes_of cs) (definition_of c.args.numbering.now), count_classes cs)

pub returns-clause-good : goal.returns-clause-good
returns-clause-good c =
    let here = goal.at.returns-clause-good c in
    let m = c.args.numbering.now in
    let D = definitions_in c.args.parts.now in
    let one = once here.In_ok-classes (copies here.In_ok-copies _ c.deref.ensures.value) in
    let have_at = have here.In_ok-depths (one _ c.deref-2.ensures.value) in
    let cs = c.deref-in-None.result.now in
    let named = one cs c.deref-in-None.ensures.value in
    let given : HaveDepths m (classes_of cs) c.deref-in-None-2.result.now = subst (HaveDepths m (classes_of cs)) (sym c.deref-in-None-2.ensures.value) (have_at cs c.deref-in-None.ensures.value) in (
      once_cap m D c.deref-3.result.now (one _ c.deref-3.ensures.value) c.args.caps.now None (have_at _ c.deref-3.ensures.value).acyclic (sym c.in-None.is ∙ c.first_exceeded.ensures),
      once_depths m D cs named c.in_ok-depths_by_name-in-None.field-0.items given.acyclic (c.in_ok-depths_by_name-in-None.ensures m (sym c.count.ensures) named.kept given),
    )
