use Rattle.dexmerge.proofs.Common.{◌≡◌, List, Definition, sym, subst, err_from_is_err_and}
use Rattle.dexmerge.specs.{classes_of}
use Rattle.dexmerge.specs.declared.candidates.Candidate.{Candidate}
use Rattle.dexmerge.specs.internal.Cycles.{AreAcyclic}
use Rattle.dexmerge.specs.internal.CandidateLists.{AreByPart}
use Rattle.dexmerge.proofs.EqualCandidates.{still_by_part}
use Rattle.dexmerge.specs.internal.Unions.{AreCopies, AreOnce}
use Rattle.dexmerge.proofs.measuring.sound_classes.Goals as goal
use Rattle.dexmerge.proofs.measuring.sound_classes.Goals.{In_ok-classes}

-- one class of each name
once : (c : In_ok-classes) (D : List Definition) → AreCopies c.args.numbering.now D c.args.copies.now → (l : List Candidate) → l ≡ c.in_ok-classes.classes.items → AreOnce c.args.numbering.now D l
once c D are l e = subst (AreOnce c.args.numbering.now D) (sym e) (c.in_ok-classes.ensures.kept D are)

pub class_depths-requires-clause-once : goal.class_depths-requires-clause-once
class_depths-requires-clause-once c = (c.requires.copies.0, once (goal.at.class_depths-requires-clause-once c).In_ok-classes c.requires.copies.0 c.requires.copies.1 _ c.deref.ensures.value)

pub class_depths-requires-clause-parts : goal.class_depths-requires-clause-parts
class_depths-requires-clause-parts c =
    (c.requires.parts.0, subst (AreByPart c.requires.parts.0) (sym c.deref.ensures.value) (still_by_part c.requires.parts.0 c.args.copies.now c.in_ok-classes.classes.items c.in_ok-classes.ensures.within c.requires.parts.1))

pub returns-in_err-_depths-clause-fault : goal.returns-in_err-_depths-clause-fault
returns-in_err-_depths-clause-fault c =
    let p = err_from_is_err_and c.from_residual-in_err-_depths.result c.from_residual-in_err-_depths.ensures.1 in
    rw (p.1, p.2) (λ caps D are. c.in_err-_depths.ensures.fault caps D (once (goal.at.returns-in_err-_depths-clause-fault c).In_ok-classes D are _ c.deref.ensures.value))

pub returns-clause-kept : goal.returns-clause-kept
returns-clause-kept c = λ D are.
    let own : AreOnce c.args.numbering.now D c.in_ok-classes.classes.items = c.in_ok-classes.ensures.kept D are in
    record {
      once = own;
      acyclic = subst (λ (cs : List Candidate). AreAcyclic c.args.numbering.now (classes_of cs)) c.deref.ensures.value
          (c.in_ok-_depths.ensures.depths c.args.numbering.now (subst (AreOnce c.args.numbering.now D) (sym c.deref.ensures.value) own).kept).acyclic;
    }
