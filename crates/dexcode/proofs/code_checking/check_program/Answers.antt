use Rattle.dexcode.proofs.Common.{ℕ, ◌+◌, List, ap, ◌∙◌, arith, common_steps, uint_at}
use Rattle.dexcode.proofs.CodesRead.{if_no_program, if_program_found}
use Rattle.dexcode.proofs.code_checking.check_program.Goals as goal

pub returns-clause-program : goal.returns-clause-program
returns-clause-program c = λ pools.
    if_program_found c.args.frame.now c.args.off c.u32_at-debug_off.result (c.u32_at-debug_off.ensures ∙ ap (λ (bytes : List ℕ). uint_at bytes (c.args.off + 8)) c.bytes.ensures.bytes) (λ e. grind (arith, common_steps)) c.checked_debug_at.result (c.checked_debug_at.ensures.debug pools)

pub returns-clause-refused : goal.returns-clause-refused
returns-clause-refused c = λ pools.
    if_no_program c.args.frame.now c.args.off c.u32_at-debug_off.result (c.u32_at-debug_off.ensures ∙ ap (λ (bytes : List ℕ). uint_at bytes (c.args.off + 8)) c.bytes.ensures.bytes) (λ e. grind (arith, common_steps)) c.checked_debug_at.result (c.checked_debug_at.ensures.refused pools)
