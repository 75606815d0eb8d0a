use Rattle.dexmembers.proofs.Common.{List, take, get_or, sym, subst, arith, take_all, take_more, Contains-get_or, err_from_is_err_and}
use Rattle.dexmembers.specs.declared.class_data.EncodedMethod.{EncodedMethod}
use Rattle.dexmembers.specs.{HaveCodesOf}
use Rattle.dexmembers.proofs.CodesOfMethods.{fault_among}
use Rattle.dexmembers.proofs.RowChecked.{no_codes_of, one_more_code}
use Rattle.dexmembers.proofs.row_reader.RowReader.check_codes.Goals as goal

-- used instead of a method that is missing
abbrev nothing : EncodedMethod
nothing = record { index = 0; flags = 0; code_off = 0 }

pub returns-in_err-code-clause-refused : goal.returns-in_err-code-clause-refused
returns-in_err-code-clause-refused c = λ p.
    let e = err_from_is_err_and c.from_residual.result c.from_residual.ensures.1 in
    let i = c.loop-method.method-index in
    rw (e.1, e.2) (fault_among c.args.self.now.frame.now c.args.methods.now (get_or c.args.methods.now i nothing) c.in_err-code.field-0.0 (Contains-get_or c.args.methods.now i nothing c.loop-method-test.true) (c.in_err-code.ensures.refused p))

pub loop-method-init : goal.loop-method-init
loop-method-init c = record { checked = c.requires; weighed = λ p. no_codes_of c.args.self.now.frame.now }

pub loop-method-preserved : goal.loop-method-preserved
loop-method-preserved c = record {
  checked = λ p. c.in_ok-code.ensures.checked p;
  weighed = λ p.
      let b = c.args.self.now.frame.now in
      let xs = c.args.methods.now in
      let i = c.loop-method.method-index in
      subst (λ (l : List EncodedMethod). HaveCodesOf b l c.saturating_add-weight.result) (sym (take_more xs i nothing c.loop-method-test.true))
      (one_more_code b (take i xs) (get_or xs i nothing) c.loop-method.weight c.in_ok-code.code c.saturating_add-weight.result (c.loop-method.invariant.weighed p) (c.in_ok-code.ensures.weight p) (omega (arith, c.saturating_add.ensures, c.saturating_add-weight.ensures)));
}

pub returns-clause-weight : goal.returns-clause-weight
returns-clause-weight c = λ p. subst (λ (l : List EncodedMethod). HaveCodesOf c.args.self.now.frame.now l c.loop-method.weight) (take_all c.loop-method.method-index c.args.methods.now (omega (arith, c.loop-method-test.false))) (c.loop-method.invariant.weighed p)
