use Rattle.dexcode.proofs.Common.{◌≡◌, ℕ, ◌+◌, List, ap, sym, subst, ◌∙◌, arith, common_steps, err_from_is_err_and, uint_at, IsDebugAt}
use Rattle.dexcode.proofs.CodesRead.{no_program, no_debug, some_debug}
use Rattle.dexcode.proofs.code_reading.read_program.Goals as goal

pub returns-then-debug_off-eq0-clause-program : goal.returns-then-debug_off-eq0-clause-program
returns-then-debug_off-eq0-clause-program c = λ pools.
    let zero : c.u32_at-debug_off.result ≡ 0 = grind (arith, common_steps) in
    no_debug c.args.frame.now c.args.off c.args.pools.now (sym (c.u32_at-debug_off.ensures ∙ ap (λ (bytes : List ℕ). uint_at bytes (c.args.off + 8)) c.bytes.ensures.bytes) ∙ zero)

pub returns-clause-program : goal.returns-clause-program
returns-clause-program c = λ pools.
    let program = subst (IsDebugAt c.args.frame.now c.u32_at-debug_off.result c.args.pools.now) (sym c.in_ok-debug.ensures.ok) (c.in_ok-program.ensures.debug pools) in
    some_debug c.args.frame.now c.args.off c.u32_at-debug_off.result c.args.pools.now c.in_ok-debug.debug.value (c.u32_at-debug_off.ensures ∙ ap (λ (bytes : List ℕ). uint_at bytes (c.args.off + 8)) c.bytes.ensures.bytes) (λ e. grind (arith, common_steps)) program

pub returns-in_err-program-clause-refused : goal.returns-in_err-program-clause-refused
returns-in_err-program-clause-refused c = λ pools.
    let p = err_from_is_err_and c.from_residual.result c.from_residual.ensures.1 in
    rw (p.1, p.2) (no_program c.args.frame.now c.args.off c.u32_at-debug_off.result (c.u32_at-debug_off.ensures ∙ ap (λ (bytes : List ℕ). uint_at bytes (c.args.off + 8)) c.bytes.ensures.bytes) (λ e. grind (arith, common_steps)) c.in_err-program.field-0.0 (c.in_err-program.ensures.refused pools))
