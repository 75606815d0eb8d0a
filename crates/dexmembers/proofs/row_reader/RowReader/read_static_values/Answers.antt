use Rattle.dexmembers.proofs.Common.{◌≢◌, length, arith, inr, refl, sym, subst, err_from_is_err_and}
use Rattle.std.proofs.lemmas.Result.{IfErr-weaker, IfOk-weaker}
use Rattle.dexmembers.specs.StaticValues.{values_in}
use Rattle.dexmembers.specs.internal.StaticValues.{IsValuesFaultWithin}
use Rattle.dexval.specs.CheckedStatics.{AreCheckedStatics}
use Rattle.dexmembers.proofs.AfterFaults.{still_holds, still_holds_after, not_there}
use Rattle.dexmembers.proofs.StaticValuesRead.{no_statics, read_values, heavy_values, fault_within}
use Rattle.dexmembers.proofs.row_reader.RowReader.read_static_values.Goals as goal

pub returns-in_err-shape-clause-refused : goal.returns-in_err-shape-clause-refused
returns-in_err-shape-clause-refused c = λ r at pools.
    let p = err_from_is_err_and c.from_residual.result c.from_residual.ensures.1 in
    let some : c.args.self.now.row.now.static_values_off ≢ 0 = omega arith in
    rw (p.1, p.2) (fault_within c.args.self.now.frame.now r (length c.args.self.now.declared.now.static_fields.items) c.args.self.now.most c.in_err-shape.field-0.0 (no_statics c.args.self.now.frame.now r c.args.self.now.row.now.static_values_off at some (length c.args.self.now.declared.now.static_fields.items) c.in_err-shape.field-0.0 (c.in_err-shape.ensures.refused pools)))

pub returns-in_err-weight-clause-refused : goal.returns-in_err-weight-clause-refused
returns-in_err-weight-clause-refused c = λ r at pools.
    let p = err_from_is_err_and c.from_residual-in_err-weight.result c.from_residual-in_err-weight.ensures.1 in
    rw (p.1, p.2) (fault_within c.args.self.now.frame.now r (length c.args.self.now.declared.now.static_fields.items) c.args.self.now.most c.in_err-weight.field-0.0 (c.in_err-weight.ensures.refused (c.in_ok-shape.ensures.values pools) r at pools))

pub returns-then-weight-self-clause-refused : goal.returns-then-weight-self-clause-refused
returns-then-weight-self-clause-refused c = λ r at pools.
    subst (IsValuesFaultWithin c.args.self.now.frame.now r (length c.args.self.now.declared.now.static_fields.items) c.args.self.now.most) (sym c.too_heavy.ensures)
    (inr (refl, heavy_values c.args.self.now.frame.now r (length c.args.self.now.declared.now.static_fields.items) c.args.self.now.most c.in_ok-weight.weight (c.in_ok-weight.ensures.weight (c.in_ok-shape.ensures.values pools) r at pools) c.if-weight-self.true))

pub returns-clause-read : goal.returns-clause-read
returns-clause-read c = λ r at pools.
    let some : c.args.self.now.row.now.static_values_off ≢ 0 = omega arith in
    IfOk-weaker c.values_at.result _ _
    (λ values are. read_values c.args.self.now.frame.now r c.args.self.now.row.now.static_values_off at some c.args.self.now.pools.now (values_in values) are (length c.args.self.now.declared.now.static_fields.items) c.args.self.now.most c.in_ok-weight.weight (c.in_ok-weight.ensures.weight (c.in_ok-shape.ensures.values pools) r at pools) c.if-weight-self.false)
    (c.values_at.ensures.values pools)

pub returns-clause-refused : goal.returns-clause-refused
returns-clause-refused c = λ r at pools.
    let some : c.args.self.now.row.now.static_values_off ≢ 0 = omega arith in
    IfErr-weaker c.values_at.result _ _
    (λ fault is. fault_within c.args.self.now.frame.now r (length c.args.self.now.declared.now.static_fields.items) c.args.self.now.most fault (no_statics c.args.self.now.frame.now r c.args.self.now.row.now.static_values_off at some (length c.args.self.now.declared.now.static_fields.items) fault is))
    (c.values_at.ensures.refused pools)

pub returns-in_err-shape-clause-heavy : goal.returns-in_err-shape-clause-heavy
returns-in_err-shape-clause-heavy c = λ pools.
    let p = err_from_is_err_and c.from_residual.result c.from_residual.ensures.1 in
    rw (p.1, p.2) (not_there (AreCheckedStatics c.args.self.now.frame.now c.args.self.now.pools.now c.checked_statics_at.new.checked) c.args.self.now.frame.now c.args.self.now.row.now.static_values_off c.in_err-shape.field-0.0 (c.in_err-shape.ensures.refused pools))

pub returns-in_err-weight-clause-heavy : goal.returns-in_err-weight-clause-heavy
returns-in_err-weight-clause-heavy c = λ pools.
    let p = err_from_is_err_and c.from_residual-in_err-weight.result c.from_residual-in_err-weight.ensures.1 in
    rw (p.1, p.2) (still_holds (AreCheckedStatics c.args.self.now.frame.now c.args.self.now.pools.now c.checked_statics_at.new.checked) c.in_err-weight.field-0.0 (c.in_ok-shape.ensures.checked pools))

pub returns-then-weight-self-clause-heavy : goal.returns-then-weight-self-clause-heavy
returns-then-weight-self-clause-heavy c = λ pools. still_holds (AreCheckedStatics c.args.self.now.frame.now c.args.self.now.pools.now c.checked_statics_at.new.checked) c.too_heavy.result (c.in_ok-shape.ensures.checked pools)

pub returns-clause-checked : goal.returns-clause-checked
returns-clause-checked c = λ pools. (still_holds_after (AreCheckedStatics c.args.self.now.frame.now c.args.self.now.pools.now c.checked_statics_at.new.checked) c.values_at.result (c.in_ok-shape.ensures.checked pools)).0

pub returns-clause-heavy : goal.returns-clause-heavy
returns-clause-heavy c = λ pools. (still_holds_after (AreCheckedStatics c.args.self.now.frame.now c.args.self.now.pools.now c.checked_statics_at.new.checked) c.values_at.result (c.in_ok-shape.ensures.checked pools)).1
