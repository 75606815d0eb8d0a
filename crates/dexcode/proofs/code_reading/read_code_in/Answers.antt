use Rattle.dexcode.proofs.Common.{sym, subst, err_from_is_err_and, IsDebugOf}
use Rattle.dexcode.proofs.CodesRead.{completed, program_fault}
use Rattle.dexcode.proofs.code_reading.read_code_in.Goals as goal

pub returns-in_err-debug-clause-refused : goal.returns-in_err-debug-clause-refused
returns-in_err-debug-clause-refused c = λ pools.
    let p = err_from_is_err_and c.from_residual-in_err-debug.result c.from_residual-in_err-debug.ensures.1 in
    rw (p.1, p.2) (program_fault (c.in_ok-pieces.ensures.parts pools).pieces c.in_err-debug.field-0.0 (c.in_err-debug.ensures.refused pools))

pub returns-clause-code : goal.returns-clause-code
returns-clause-code c = λ pools.
    completed (c.in_ok-pieces.ensures.parts pools) c.in_ok-extras.ensures.tries
    (subst (IsDebugOf c.args.frame.now c.args.off c.args.pools.now) (sym c.in_ok-extras.ensures.debug) (c.in_ok-debug.ensures.program pools))
