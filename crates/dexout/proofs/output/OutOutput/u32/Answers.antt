use Rattle.dexout.proofs.Common.{arith, uint, length-uint}
use Rattle.dexout.proofs.Buffered.{flushed_first}
use Rattle.dexout.proofs.output.OutOutput.u32.Goals as goal

pub returns : goal.returns
returns g c = flushed_first g.met.T.Target.more c.args.self.now c.make_room.new.self c.u32.new.self (uint c.args.value) c.make_room.ensures.adds (λ room. omega (arith, c.make_room.ensures.room room, length-uint c.args.value)) c.u32.ensures
