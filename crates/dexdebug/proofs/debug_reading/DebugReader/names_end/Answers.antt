use Rattle.dexdebug.proofs.Common.{◌++◌, [], ◌∷◌, refl}
use Rattle.dexdebug.proofs.DebugRuns.{one_name_more, no_name}
use Rattle.dexdebug.proofs.debug_reading.DebugReader.names_end.Goals as goal

pub returns-in_err-len : goal.returns-in_err-len
returns-in_err-len c = rw c.from_residual.ensures (no_name c.args.self.now.counts.texts c.args.self.now.bytes.now c.args.from c.args.count c.loop.counter c.loop.at c.loop.invariant.names c.loop.invariant.so_far c.loop-test.true c.in_err-len.ensures.only)

pub loop-preserved : goal.loop-preserved
loop-preserved c = record {
  names = c.loop.invariant.names ++ c.in_ok-len.field-0-0 ∷ [];
  so_far = one_name_more c.args.self.now.counts.texts c.args.self.now.bytes.now c.args.from c.args.count c.loop.counter c.loop.at c.loop.invariant.names (c.loop.invariant.names ++ c.in_ok-len.field-0-0 ∷ []) c.in_ok-len.field-0-0 c.in_ok-len.len c.loop.invariant.so_far c.loop-test.true
      c.in_ok-len.ensures.within c.in_ok-len.ensures.found c.in_ok-len.ensures.only refl;
}
