use Rattle.dexout.proofs.Common.{arith, ushort, length-ushort}
use Rattle.dexout.proofs.Buffered.{flushed_first}
use Rattle.dexout.proofs.output.OutOutput.u16.Goals as goal

pub returns : goal.returns
returns g c = flushed_first g.met.T.Target.more c.args.self.now c.make_room.new.self c.u16.new.self (ushort c.args.value) c.make_room.ensures.adds (λ room. omega (arith, c.make_room.ensures.room room, length-ushort c.args.value)) c.u16.ensures
