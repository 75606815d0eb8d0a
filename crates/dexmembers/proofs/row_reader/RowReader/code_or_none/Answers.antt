use Rattle.dexmembers.proofs.Common.{arith, common_steps, err_from_is_err_and}
use Rattle.dexmembers.specs.{code_with, item_at}
use Rattle.dexmembers.proofs.CodesOfMethods.{debug_refused, some_code}
use Rattle.dexmembers.proofs.row_reader.RowReader.code_or_none.Goals as goal

pub returns-in_err-debug-clause-refused : goal.returns-in_err-debug-clause-refused
returns-in_err-debug-clause-refused c = λ pools.
    let p = err_from_is_err_and c.from_residual-in_err-debug.result c.from_residual-in_err-debug.ensures.1 in
    rw (p.1, p.2) (debug_refused (c.in_ok-code.ensures.code pools) (λ e. grind (arith, common_steps)) c.in_err-debug.field-0.0 (c.in_err-debug.ensures.refused pools))

pub returns-clause-read : goal.returns-clause-read
returns-clause-read c = λ pools.
    let debugs = c.place_debug.new.kept.items.items in
    some_code c.args.self.now.frame.now c.args.off c.args.self.now.pools.now (code_with debugs (record { code = c.in_ok-code.code; debug = c.in_ok-debug.debug })) (λ e. grind (arith, common_steps))
    ((c.in_ok-code.ensures.code pools).completed (item_at debugs c.in_ok-debug.debug) (c.in_ok-debug.ensures.read pools))
