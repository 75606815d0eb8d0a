use Rattle.dexmembers.proofs.Common.{List, sym, subst, arith, err_from_is_err_and, AreRising}
use Rattle.dexmembers.specs.internal.MethodCodes.{IsCodesFault}
use Rattle.dexmembers.specs.{HaveCodesOf}
use Rattle.dexmembers.specs.declared.class_data.EncodedMethod.{EncodedMethod}
use Rattle.dexmembers.proofs.DirectoryCache.{data_refused, direct_refused, virtual_refused}
use Rattle.dexmembers.proofs.RowsAreAt.{annotations_refused, values_refused}
use Rattle.dexmembers.proofs.RowChecked.{members_of}
use Rattle.dexmembers.proofs.checking.check_members.Goals as goal

pub returns-in_err-declared-clause-refused : goal.returns-in_err-declared-clause-refused
returns-in_err-declared-clause-refused c = λ r row pools class.
    let p = err_from_is_err_and c.from_residual.result c.from_residual.ensures.1 in
    rw (p.1, p.2) (data_refused c.args.frame.now r c.in_err-declared.field-0.0 (c.in_err-declared.ensures.refused r row pools))

pub returns-in_err-annotations-clause-refused : goal.returns-in_err-annotations-clause-refused
returns-in_err-annotations-clause-refused c = λ r row pools class.
    let p = err_from_is_err_and c.from_residual-in_err-annotations.result c.from_residual-in_err-annotations.ensures.1 in
    rw (p.1, p.2) (annotations_refused c.args.frame.now r c.in_err-annotations.field-0.0 (c.in_err-annotations.ensures.refused r (sym row.annotations_are) pools (c.in_ok-declared.ensures.read r row pools class)))

pub returns-in_err-direct-clause-refused : goal.returns-in_err-direct-clause-refused
returns-in_err-direct-clause-refused c = λ r row pools class.
    let p = err_from_is_err_and c.from_residual-in_err-direct.result c.from_residual-in_err-direct.ensures.1 in
    rw (p.1, p.2) (direct_refused c.args.frame.now r c.args.pools.now c.in_ok-declared.declared (c.in_ok-declared.ensures.read r row pools class) c.in_err-direct.field-0.0
    (subst (λ (l : List EncodedMethod). IsCodesFault c.args.frame.now l c.in_err-direct.field-0.0) c.deref.ensures.value (c.in_err-direct.ensures.refused pools)))

pub returns-in_err-virtuals-clause-refused : goal.returns-in_err-virtuals-clause-refused
returns-in_err-virtuals-clause-refused c = λ r row pools class.
    let p = err_from_is_err_and c.from_residual-in_err-virtuals.result c.from_residual-in_err-virtuals.ensures.1 in
    rw (p.1, p.2) (virtual_refused c.args.frame.now r c.args.pools.now c.in_ok-declared.declared (c.in_ok-declared.ensures.read r row pools class) c.in_err-virtuals.field-0.0
    (subst (λ (l : List EncodedMethod). IsCodesFault c.args.frame.now l c.in_err-virtuals.field-0.0) c.deref-2.ensures.value (c.in_err-virtuals.ensures.refused pools)))

pub returns-in_err-values-clause-refused : goal.returns-in_err-values-clause-refused
returns-in_err-values-clause-refused c = λ r row pools class.
    let p = err_from_is_err_and c.from_residual-in_err-values.result c.from_residual-in_err-values.ensures.1 in
    rw (p.1, p.2) (values_refused c.args.frame.now r c.args.pools.now c.in_ok-declared.declared (c.in_ok-declared.ensures.read r row pools class) c.in_err-values.field-0.0
    (c.in_err-values.ensures.refused r (sym row.static_values_are) pools))

pub returns-clause-checked : goal.returns-clause-checked
returns-clause-checked c = λ r row pools class.
    let b = c.args.frame.now in
    let d = c.in_ok-declared.declared in
    let is = c.in_ok-declared.ensures.read r row pools class in
    let rising = subst AreRising c.numbering.ensures c.is_numbering.ensures.rising in
    members_of b r c.args.pools.now pools rising d is c.saturating_add.result c.in_ok-annotations.annotations c.in_ok-direct.direct c.in_ok-virtuals.virtuals c.in_ok-values.values _ (omega (arith, c.saturating_add.ensures, c.saturating_mul-statics.ensures, c.saturating_mul-instances.ensures))
    (c.in_ok-annotations.ensures.weight r (sym row.annotations_are) pools is)
    (subst (λ (l : List EncodedMethod). HaveCodesOf b l c.in_ok-direct.direct) c.deref.ensures.value (c.in_ok-direct.ensures.weight pools))
    (subst (λ (l : List EncodedMethod). HaveCodesOf b l c.in_ok-virtuals.virtuals) c.deref-2.ensures.value (c.in_ok-virtuals.ensures.weight pools))
    (c.in_ok-values.ensures.weight r (sym row.static_values_are) pools)
    (omega (arith, c.saturating_add-fields.ensures, c.saturating_add-codes.ensures, c.saturating_add-2.ensures, c.saturating_add-3.ensures))
