use Rattle.dexclass.proofs.Common.{◌+◌, ◌≤◌, ap, sym, subst, arith, err_from_is_err_and, mentions_weight, most_weight}
use Rattle.dexclass.specs.{IsCheckedAs}
use Rattle.dexclass.proofs.RowFaults.{class_fault}
use Rattle.dexclass.proofs.RowsChecked.{all_checked, read_checked}
use Rattle.dexclass.proofs.checking.check_frame.Goals as goal

pub returns-in_err-check_classes-clause-refused : goal.returns-in_err-check_classes-clause-refused
returns-in_err-check_classes-clause-refused c =
    let p = err_from_is_err_and c.from_residual-in_err-check_classes.result c.from_residual-in_err-check_classes.ensures.1 in
    rw (p.1, p.2) (class_fault c.args.frame.now c.in_err-check_classes.field-0.0 c.in_err-check_classes.ensures.refused)

pub returns-in-Some-clause-accepted : goal.returns-in-Some-clause-accepted
returns-in-Some-clause-accepted c =
    let light : 1024 + mentions_weight c.in_ok-pools.pools + c.in_ok-bodies.bodies ≤ most_weight = omega (arith, c.in-Some.ensures.weight_is, c.in-Some.ensures.light, ap mentions_weight c.numbering.ensures) in
    subst (IsCheckedAs c.args.frame.now) (sym c.size.ensures) (all_checked c.args.frame.now c.in_ok-pools.pools c.in_ok-pools.ensures.rows c.in_ok-check_classes.ensures.accepted c.in_ok-bodies.bodies c.in_ok-bodies.ensures.accepted light)

pub returns-clause-accepted : goal.returns-clause-accepted
returns-clause-accepted c = read_checked c.args.frame.now c.in_ok-program.program c.len.result c.in_ok-program.ensures.accepted c.len.ensures
