use Rattle.dexout.proofs.Common.{◌∷◌, [], arith}
use Rattle.dexout.proofs.Buffered.{flushed_first}
use Rattle.dexout.proofs.output.OutOutput.byte.Goals as goal

pub returns : goal.returns
returns g c = flushed_first g.met.T.Target.more c.args.self.now c.make_room.new.self c.byte.new.self (c.args.byte ∷ []) c.make_room.ensures.adds (λ room. omega (arith, c.make_room.ensures.room room)) c.byte.ensures
