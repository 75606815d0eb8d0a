use Rattle.dexmembers.proofs.Common.{◌≢◌, length, arith, err_from_is_err_and}
use Rattle.dexmembers.proofs.StaticValuesRead.{no_statics}
use Rattle.dexmembers.proofs.RowChecked.{no_values}
use Rattle.dexmembers.proofs.row_reader.RowReader.check_static_values.Goals as goal

pub returns-then-off-eq0-clause-weight : goal.returns-then-off-eq0-clause-weight
returns-then-off-eq0-clause-weight c = λ r at pools. no_values c.args.self.now.frame.now r (omega (arith, at)) (length c.args.self.now.declared.now.static_fields.items)

pub returns-in_err-shape-clause-refused : goal.returns-in_err-shape-clause-refused
returns-in_err-shape-clause-refused c = λ r at pools.
    let p = err_from_is_err_and c.from_residual.result c.from_residual.ensures.1 in
    let some : c.args.self.now.row.now.static_values_off ≢ 0 = omega arith in
    rw (p.1, p.2) (no_statics c.args.self.now.frame.now r c.args.self.now.row.now.static_values_off at some (length c.args.self.now.declared.now.static_fields.items) c.in_err-shape.field-0.0 (c.in_err-shape.ensures.refused pools))

pub returns-clause-weight : goal.returns-clause-weight
returns-clause-weight c = λ r at pools. c.weight_of_values.ensures.weight (c.in_ok-shape.ensures.values pools) r at pools

pub returns-clause-refused : goal.returns-clause-refused
returns-clause-refused c = λ r at pools. c.weight_of_values.ensures.refused (c.in_ok-shape.ensures.values pools) r at pools
