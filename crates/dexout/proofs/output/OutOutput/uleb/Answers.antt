use Rattle.dexout.proofs.Common.{arith, uleb128, uleb128-size}
use Rattle.dexout.proofs.Buffered.{flushed_first}
use Rattle.dexout.proofs.output.OutOutput.uleb.Goals as goal

pub returns : goal.returns
returns g c = flushed_first g.met.T.Target.more c.args.self.now c.make_room.new.self c.uleb.new.self (uleb128 c.args.value) c.make_room.ensures.adds (λ room. omega (arith, c.make_room.ensures.room room, uleb128-size c.args.value)) c.uleb.ensures
