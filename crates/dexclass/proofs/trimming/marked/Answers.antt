use Rattle.dexclass.proofs.Common.{◌∙◌, ◌<◌, ℕ, All, List, ap, sym, subst, flat_map, get_or, get_or_default, take_all, map, arith, ltb-true, IsMarkedUse}
use Rattle.dexclass.specs.{NumberedClass, HaveMarked, IsKnownClass, class_uses, type_use}
use Rattle.dexclass.proofs.Marked.{first_marked, have_next}
use Rattle.dexclass.proofs.Trimmed.{marked_mentions}
use Rattle.dexclass.proofs.Unmarked.{none_marked, still_marks}
use Rattle.dexclass.proofs.trimming.marked.Goals as goal

pub loop-i-init : goal.loop-i-init
loop-i-init c = record { count = c.in_ok-marks.ensures.marks; marked = none_marked c.args.numbering.now c.in_ok-marks.marks c.in_ok-marks.ensures.marks c.in_ok-marks.ensures.none }

pub mark_with-requires-clause-known : goal.mark_with-requires-clause-known
mark_with-requires-clause-known c = c.uses_law.ensures.marks c.args.numbering.now c.loop-i.marks c.index-classes-i.result c.loop-i.invariant.count (subst (IsKnownClass c.args.numbering.now) (sym c.index-classes-i.is) (c.requires c.loop-i.i c.index-classes-i.result c.loop-i-test.true))

pub mark_with-requires-clause-marked : goal.mark_with-requires-clause-marked
mark_with-requires-clause-marked c = λ yes.
    let cs = c.args.classes.now in
    let firsts = c.in_ok-firsts.firsts.items in
    let i = c.loop-i.i in
    let x = c.index-classes-i.result in
    let first : get_or firsts i 0 < i = omega (arith, ltb-true c.index.result.now i yes, c.index.ensures, get_or_default firsts i c.index.result.now 0 (omega (arith, c.loop-i-test.true, c.in_ok-firsts.ensures.count))) in
    subst (λ (l : List ℕ). All (IsMarkedUse c.loop-i.marks) (map type_use l)) (c.in_ok-firsts.ensures.equal i x c.loop-i-test.true ∙ ap (λ (y : NumberedClass). y.interfaces) (sym c.index-classes-i.is))
    (first_marked cs i (get_or firsts i 0) x c.loop-i.marks first c.loop-i-test.true c.loop-i.invariant.marked)

pub loop-i-preserved : goal.loop-i-preserved
loop-i-preserved c = record {
  count = still_marks c.args.numbering.now (class_uses c.index-classes-i.result) c.loop-i.marks c.mark_with.new.marks c.loop-i.invariant.count c.mark_with.ensures;
  marked = have_next class_uses c.args.classes.now c.loop-i.i c.index-classes-i.result c.loop-i.marks c.mark_with.new.marks c.loop-i-test.true c.index-classes-i.is c.loop-i.invariant.marked c.mark_with.ensures;
}

pub returns : goal.returns
returns c =
    let all = subst (λ (l : List NumberedClass). HaveMarked (flat_map class_uses l) c.loop-i.marks) (take_all c.loop-i.i c.args.classes.now c.loop-i-test.false) c.loop-i.invariant.marked in
    record {
      count = c.loop-i.invariant.count;
      uses_marked = all;
      mentioned = marked_mentions c.args.numbering.now c.args.classes.now c.requires (λ class. c.uses_law.ensures.uses c.args.numbering.now class c.is_numbering.ensures.rising) c.loop-i.marks all;
    }
