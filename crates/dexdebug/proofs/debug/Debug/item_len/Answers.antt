use Rattle.dexdebug.proofs.Common.{◌^◌, ◌<◌, length, ap, ◌∙◌, arith}
use Rattle.dexdebug.proofs.debug.Debug.item_len.Goals as goal

pub returns-clause-numbered : goal.returns-clause-numbered
returns-clause-numbered c =
    let zero : 0 < 2 ^ 64 = omega arith in
    omega (arith, c.encode.ensures.bytes zero, c.encode.ensures.few)

pub returns-clause-symbolic : goal.returns-clause-symbolic
returns-clause-symbolic c = λ m x rising encodes. returns-clause-numbered c ∙ ap length (c.debug_bytes_law.ensures.bytes m c.args.self.now x rising encodes)
