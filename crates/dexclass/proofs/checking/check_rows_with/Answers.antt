use Rattle.dexclass.proofs.Common.{◌≡◌, ◌<◌, ◌+◌, ◌*◌, ◌-◌, ◌^◌, ℕ, min, length, sym, subst, arith, interfaces_off, Condition, ClassDefs, table_size}
use Rattle.dexids.specs.Reading.{listed}
use Rattle.dexclass.specs.internal.Rows.{HasInterfaceList}
use Rattle.dexclass.specs.{IsFaultOf, HaveBodiesOf}
use Rattle.dexclass.proofs.Interfaces.{row_interfaces}
use Rattle.dexclass.proofs.RowFaults.{row_fault}
use Rattle.dexclass.proofs.RowsChecked.{no_bodies, checked_heavy, checked_more}
use Rattle.dexclass.proofs.checking.check_rows_with.Goals as goal

pub loop-r-init : goal.loop-r-init
loop-r-init c = record { checks_are = c.requires.checks; bodies_are = no_bodies c.args.frame.now }

pub interface_count-interfaces-requires : goal.interface_count-interfaces-requires
interface_count-interfaces-requires c =
    let lt : c.loop-r.r < table_size c.args.frame.now ClassDefs = omega (arith, c.loop-r-test.true, c.size-r-end.ensures) in
    subst (HasInterfaceList c.args.frame.now) c.at-row.ensures.interfaces_are (c.requires.holds Condition.Classes (omega arith) c.loop-r.r lt).interfaces

pub check_members-requires : goal.check_members-requires
check_members-requires c = λ pools. c.loop-r.invariant.checks_are

pub returns-in-Err-clause-refused : goal.returns-in-Err-clause-refused
returns-in-Err-clause-refused c =
    let lt : c.loop-r.r < table_size c.args.frame.now ClassDefs = omega (arith, c.loop-r-test.true, c.size-r-end.ensures) in
    row_fault c.args.frame.now c.loop-r.r c.in-Err.fault c.at_row.result c.at_row.ensures c.requires.holds lt (c.in-Err.ensures.refused c.loop-r.r c.at-row.ensures c.requires.pools (c.requires.holds Condition.Classes (omega arith) c.loop-r.r lt))

pub returns-then-weight-gt-MOST_WEIGHT-clause-refused : goal.returns-then-weight-gt-MOST_WEIGHT-clause-refused
returns-then-weight-gt-MOST_WEIGHT-clause-refused c =
    let b = c.args.frame.now in
    let r = c.loop-r.r in
    let lt : r < table_size b ClassDefs = omega (arith, c.loop-r-test.true, c.size-r-end.ensures) in
    let more : c.saturating_add-weight.result ≡ min (2 ^ 64 - 1) (min (2 ^ 64 - 1) (c.loop-r.weight + (96 + 2 * length (listed b (interfaces_off b r)))) + c.in-Ok.members) =
    omega (arith, c.saturating_add-before.ensures, c.saturating_add-weight.ensures, row_interfaces b r c.at-row.result c.interface_count-interfaces.result c.at-row.ensures c.interface_count-interfaces.ensures, c.row_weight.ensures) in
    subst (IsFaultOf b) (sym c.too_heavy.ensures)
    (checked_heavy b c.args.pools.now c.requires.pools c.requires.holds r lt c.loop-r.weight c.in-Ok.members c.saturating_add-weight.result c.loop-r.invariant.bodies_are
    (c.in-Ok.ensures.checked r c.at-row.ensures c.requires.pools (c.requires.holds Condition.Classes (omega arith) r lt)) more c.if-weight-gt-MOST_WEIGHT.true)

pub loop-r-preserved : goal.loop-r-preserved
loop-r-preserved c =
    let b = c.args.frame.now in
    let r = c.loop-r.r in
    let lt : r < table_size b ClassDefs = omega (arith, c.loop-r-test.true, c.size-r-end.ensures) in
    let more : c.saturating_add-weight.result ≡ min (2 ^ 64 - 1) (min (2 ^ 64 - 1) (c.loop-r.weight + (96 + 2 * length (listed b (interfaces_off b r)))) + c.in-Ok.members) =
    omega (arith, c.saturating_add-before.ensures, c.saturating_add-weight.ensures, row_interfaces b r c.at-row.result c.interface_count-interfaces.result c.at-row.ensures c.interface_count-interfaces.ensures, c.row_weight.ensures) in
    record {
      checks_are = c.in-Ok.ensures.checks c.requires.pools;
      bodies_are = checked_more b c.args.pools.now c.requires.pools c.requires.holds r lt c.loop-r.weight c.in-Ok.members c.saturating_add-weight.result c.loop-r.invariant.bodies_are
          (c.in-Ok.ensures.checked r c.at-row.ensures c.requires.pools (c.requires.holds Condition.Classes (omega arith) r lt)) more c.if-weight-gt-MOST_WEIGHT.false;
    }

pub returns-clause-accepted : goal.returns-clause-accepted
returns-clause-accepted c =
    let all : c.loop-r.r ≡ table_size c.args.frame.now ClassDefs = omega (arith, c.loop-r-test.false, c.loop-r.auto.r-end, c.size-r-end.ensures) in
    subst (λ (n : ℕ). HaveBodiesOf c.args.frame.now n c.loop-r.weight) all c.loop-r.invariant.bodies_are
