use Rattle.dexmerge.proofs.Common.{◌≡◌, List, sym, subst, err_from_is_err_and, Maps}
use Rattle.dexmerge.specs.{definitions_in, referents}
use Rattle.dexmerge.specs.declared.candidates.Candidate.{Candidate}
use Rattle.dexmerge.specs.internal.CandidateLists.{AreByPart}
use Rattle.dexmerge.specs.internal.Unions.{AreCopies, AreSound, IsJoined}
use Rattle.dexmerge.proofs.Counting.{once_counts}
use Rattle.dexmerge.proofs.MergeLaws.{are_copies}
use Rattle.dexmerge.proofs.measuring.measure.Goals as goal
use Rattle.dexmerge.proofs.measuring.measure.Goals.{In_ok-classes, In_ok-copies}

-- the copies of all parts
copies : (c : In_ok-copies) (l : List Candidate) → l ≡ c.in_ok-copies.copies.items → AreCopies c.in_ok-numbering.numbering (definitions_in c.args.parts.now) l
copies c l e =
    let Ks = referents c.args.parts.now in
    let m = c.in_ok-numbering.numbering in
    subst (AreCopies m (definitions_in c.args.parts.now)) (sym e) (are_copies Ks m c.deref.result.now c.in_ok-copies.copies.items (subst (λ (r : List Maps). IsJoined Ks m r) (sym c.deref.ensures.value) c.in_ok-numbering.ensures) (c.in_ok-copies.ensures.members m) (c.in_ok-copies.ensures.parts m))

-- one class of each name, none of them above itself
sound : (c : In_ok-classes) → AreCopies c.in_ok-numbering.numbering (definitions_in c.args.parts.now) c.deref-2.result.now → (l : List Candidate) → l ≡ c.in_ok-classes.classes.items → AreSound c.in_ok-numbering.numbering (definitions_in c.args.parts.now) l
sound c are l e = subst (AreSound c.in_ok-numbering.numbering (definitions_in c.args.parts.now)) (sym e) (c.in_ok-classes.ensures.kept (definitions_in c.args.parts.now) are)

pub sound_classes-requires-clause-copies : goal.sound_classes-requires-clause-copies
sound_classes-requires-clause-copies c = (definitions_in c.args.parts.now, copies (goal.at.sound_classes-requires-clause-copies c).In_ok-copies _ c.deref-2.ensures.value)

pub sound_classes-requires-clause-parts : goal.sound_classes-requires-clause-parts
sound_classes-requires-clause-parts c = (c.deref.result.now, subst (AreByPart c.deref.result.now) (sym c.deref-2.ensures.value) c.in_ok-copies.ensures.remaps)

pub returns-in_err-classes-clause-fault : goal.returns-in_err-classes-clause-fault
returns-in_err-classes-clause-fault c =
    let p = err_from_is_err_and c.from_residual-in_err-classes.result c.from_residual-in_err-classes.ensures.1 in
    rw (p.1, p.2) (λ caps. c.in_err-classes.ensures.fault caps (definitions_in c.args.parts.now) (copies (goal.at.returns-in_err-classes-clause-fault c).In_ok-copies _ c.deref-2.ensures.value))

pub counts_of-requires-clause-parts : goal.counts_of-requires-clause-parts
counts_of-requires-clause-parts c =
    let here = goal.at.counts_of-requires-clause-parts c in
    (sound here.In_ok-classes (copies here.In_ok-copies _ c.deref-2.ensures.value) _ c.deref-3.ensures.value).once.copies.of_parts

pub counts_of-requires-clause-known : goal.counts_of-requires-clause-known
counts_of-requires-clause-known c =
    let here = goal.at.counts_of-requires-clause-known c in
    (sound here.In_ok-classes (copies here.In_ok-copies _ c.deref-2.ensures.value) _ c.deref-3.ensures.value).once.copies.members.known

pub returns-clause-counts : goal.returns-clause-counts
returns-clause-counts c =
    let here = goal.at.returns-clause-counts c in
    let own = sound here.In_ok-classes (copies here.In_ok-copies _ c.deref-2.ensures.value) _ c.deref-3.ensures.value in
    once_counts c.in_ok-numbering.numbering (definitions_in c.args.parts.now) c.deref-3.result.now own.once c.counts_of.result own.acyclic c.counts_of.ensures
