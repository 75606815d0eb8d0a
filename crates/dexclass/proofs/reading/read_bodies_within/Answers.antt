use Rattle.dexclass.proofs.Common.{◌≡◌, ◌<◌, ◌+◌, ◌*◌, ◌∙◌, ℕ, ap, length, refl, sym, subst, arith, interfaces_off, Condition, ClassDefs, table_size}
use Rattle.dexmembers.specs.Checking.{AreChecks}
use Rattle.dexclass.specs.internal.Reading.{AreBodies}
use Rattle.dexids.specs.Reading.{listed}
use Rattle.dexclass.specs.internal.Rows.{HasInterfaceList}
use Rattle.dexclass.specs.{class_of_row, number_of}
use Rattle.dexclass.specs.internal.ReadWithin.{IsFaultWithin, IfTooHeavy}
use Rattle.dexclass.proofs.Interfaces.{row_interfaces}
use Rattle.dexclass.proofs.AfterFaults.{at_row_heavy}
use Rattle.dexclass.proofs.RowFaults.{row_fault_up_to, heavy_within}
use Rattle.dexclass.proofs.Summing.{class_heavy, class_more}
use Rattle.dexclass.proofs.reading.read_bodies_within.Goals as goal
use Rattle.dexclass.proofs.reading.read_bodies_within.Goals.{After-row_weight-own}

-- what the row weighs without its members
own : (c : After-row_weight-own) → c.row_weight-own.result ≡ 96 + 2 * length (listed c.args.frame.now (interfaces_off c.args.frame.now c.loop-r.r))
own c = omega (arith, row_interfaces c.args.frame.now c.loop-r.r c.at-row.result c.interface_count-count.result c.at-row.ensures c.interface_count-count.ensures, c.row_weight-own.ensures)

pub interface_count-count-requires : goal.interface_count-count-requires
interface_count-count-requires c =
    let lt : c.loop-r.r < table_size c.args.frame.now ClassDefs = omega (arith, c.loop-r-test.true, c.size-rows.ensures) in
    subst (HasInterfaceList c.args.frame.now) c.at-row.ensures.interfaces_are (c.requires.before Condition.Classes (omega arith) c.loop-r.r lt).interfaces

pub listed-interfaces-requires-clause-list : goal.listed-interfaces-requires-clause-list
listed-interfaces-requires-clause-list c =
    let lt : c.loop-r.r < table_size c.args.frame.now ClassDefs = omega (arith, c.loop-r-test.true, c.size-rows.ensures) in
    subst (HasInterfaceList c.args.frame.now) c.at-row.ensures.interfaces_are (c.requires.before Condition.Classes (omega arith) c.loop-r.r lt).interfaces

pub returns-in-Err-clause-refused : goal.returns-in-Err-clause-refused
returns-in-Err-clause-refused c =
    let lt : c.loop-r.r < table_size c.args.frame.now ClassDefs = omega (arith, c.loop-r-test.true, c.size-rows.ensures) in
    row_fault_up_to c.args.frame.now c.args.pools.now c.requires.pools c.requires.before c.loop-r.r c.loop-r.bodies c.loop-r.invariant.bodies_are lt c.args.most c.requires.most c.saturating_sub-left.result
    (omega (arith, c.saturating_sub-left.ensures, own (goal.at.returns-in-Err-clause-refused c).After-row_weight-own)) c.in-Err.fault c.at_row.result c.at_row.ensures
    (c.in-Err.ensures.refused c.loop-r.r c.at-row.ensures c.requires.pools (c.requires.before Condition.Classes (omega arith) c.loop-r.r lt))

pub returns-then-before-most-clause-refused : goal.returns-then-before-most-clause-refused
returns-then-before-most-clause-refused c =
    let b = c.args.frame.now in
    let lt : c.loop-r.r < table_size b ClassDefs = omega (arith, c.loop-r-test.true, c.size-rows.ensures) in
    let read = c.in-Ok.ensures.read c.loop-r.r c.at-row.ensures c.requires.pools (c.requires.before Condition.Classes (omega arith) c.loop-r.r lt) in
    let w = c.row_weight-own.result + c.in-Ok.found.1 in
    subst (IsFaultWithin c.args.most b) (sym c.too_heavy.ensures)
    (heavy_within b c.loop-r.r c.args.most (c.loop-r.bodies.weight + w) c.requires.most (omega (arith, c.if-before-most.true))
    (class_heavy b c.args.pools.now c.requires.pools c.requires.before c.loop-r.r lt c.saturating_sub-left.result c.in-Ok.found.0 read.0 w
    (omega (arith, own (goal.at.returns-then-before-most-clause-refused c).After-row_weight-own, read.1)) c.loop-r.bodies c.loop-r.invariant.bodies_are))

pub returns-in-Err-clause-checks : goal.returns-in-Err-clause-checks
returns-in-Err-clause-checks c =
    let lt : c.loop-r.r < table_size c.args.frame.now ClassDefs = omega (arith, c.loop-r-test.true, c.size-rows.ensures) in
    at_row_heavy (AreChecks c.args.frame.now c.args.pools.now c.read_shared_members.new.checks) c.loop-r.r c.in-Err.fault c.at_row.result c.at_row.ensures
    (c.in-Err.ensures.heavy c.loop-r.r c.at-row.ensures c.requires.pools (c.requires.before Condition.Classes (omega arith) c.loop-r.r lt))

pub returns-then-before-most-clause-checks : goal.returns-then-before-most-clause-checks
returns-then-before-most-clause-checks c =
    subst (IfTooHeavy (AreChecks c.args.frame.now c.args.pools.now c.read_shared_members.new.checks)) (sym c.too_heavy.ensures) (λ heavy. c.in-Ok.ensures.checks c.requires.pools)

pub loop-r-preserved : goal.loop-r-preserved
loop-r-preserved c =
    let b = c.args.frame.now in
    let lt : c.loop-r.r < table_size b ClassDefs = omega (arith, c.loop-r-test.true, c.size-rows.ensures) in
    let w = c.row_weight-own.result + c.from.result in
    let row = c.at-row.ensures in
    let read = c.in-Ok.ensures.read c.loop-r.r row c.requires.pools (c.requires.before Condition.Classes (omega arith) c.loop-r.r lt) in
    let superclass = c.number_of.ensures ∙ ap number_of (sym row.superclass_is) in
    let interfaces = c.listed-interfaces.ensures ∙ ap (listed b) (sym row.interfaces_are) in
    let source = c.number_of-in-loop-r.ensures ∙ ap number_of (sym row.source_is) in
    let class : _ ≡ class_of_row b c.loop-r.r c.in-Ok.found.0 w =
    λ i. record { name = sym row.class_is i; flags = sym row.flags_are i; superclass = superclass i; interfaces = interfaces i; source = source i; members = c.in-Ok.found.0; weight = w } in
    record {
      bodies_are = class_more b c.args.pools.now c.requires.pools c.requires.before c.loop-r.r lt c.saturating_sub-left.result c.in-Ok.found.0 read.0 w (omega (arith, own (goal.at.loop-r-preserved c).After-row_weight-own, c.from.ensures, read.1))
          c.loop-r.bodies c.loop-r.invariant.bodies_are (omega (arith, c.if-before-most.false, c.requires.most, c.saturating_sub-left.ensures, c.from.ensures, read.0.light, read.1)) _ class (record { classes = c.push.new.self; weight = c.loop-r.bodies.weight + w }) c.in_ok-push.ensures.items refl;
      light = omega (arith, c.if-before-most.false, c.saturating_sub-left.ensures, c.from.ensures, read.0.light, read.1);
      shared_are = c.in-Ok.ensures.shared c.requires.pools;
      checks_are = c.in-Ok.ensures.checks c.requires.pools;
    }

pub returns-clause-accepted : goal.returns-clause-accepted
returns-clause-accepted c =
    let all : c.loop-r.r ≡ table_size c.args.frame.now ClassDefs = omega (arith, c.loop-r-test.false, c.loop-r.auto.r-end, c.size-rows.ensures) in
    subst (λ (n : ℕ). AreBodies c.args.frame.now c.args.pools.now n c.loop-r.bodies) all c.loop-r.invariant.bodies_are
