use Rattle.dexcode.proofs.Common.{ℕ, ◌+◌, List, ap, ◌∙◌, uint_at}
use Rattle.dexcode.proofs.CodesRead.{code_beside}
use Rattle.dexcode.proofs.code_reading.read_without_debug.Goals as goal

pub returns-clause-code : goal.returns-clause-code
returns-clause-code c = λ pools.
    code_beside (c.in_ok-pieces.ensures.parts pools) c.in_ok-extras.ensures.tries
    (c.u32_at-debug_off.ensures ∙ ap (λ (bytes : List ℕ). uint_at bytes (c.args.off + 8)) c.bytes.ensures.bytes)
