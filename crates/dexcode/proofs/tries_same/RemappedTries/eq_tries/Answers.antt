use Rattle.dexcode.proofs.Common.{◌<◌, length, arith, same_at, remapped_try}
use Rattle.dexcode.proofs.tries_same.RemappedTries.eq_tries.Goals as goal

pub returns-then-not-eq_try : goal.returns-then-not-eq_try
returns-then-not-eq_try c =
    let within : c.loop-i.i < length c.args.self.now.tries.now = omega arith in
    let others : c.loop-i.i < length c.args.others.now.tries.now = omega (arith, c.loop-i.invariant.count) in (
      (λ t. absurd cc),
      (λ e. let same = c.eq_try.ensures.1 (same_at (remapped_try c.args.self.now.remap.now c.args.self.now.handlers.now) (remapped_try c.args.others.now.remap.now c.args.others.now.handlers.now) c.args.self.now.tries.now c.args.others.now.tries.now c.loop-i.i (record { start_addr = 0; insn_count = 0; handler = 0 }) within others e) in cc),
    )
