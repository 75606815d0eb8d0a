use Rattle.dexout.proofs.Common.{w32, subst, arith, sleb128, sleb128-size, HasRoomFor, Pushes}
use Rattle.std.proofs.lemmas.Int.{to_z-of_z}
use Rattle.dexout.proofs.Buffered.{flushed_first}
use Rattle.dexout.proofs.output.OutOutput.sleb.Goals as goal

pub returns : goal.returns
returns g c =
    let push = subst (λ v. HasRoomFor (sleb128 v) c.make_room.new.self.buffer → Pushes (sleb128 v) c.make_room.new.self.buffer c.sleb.new.self) (to_z-of_z w32 c.args.value c.ranges.value) c.sleb.ensures in
    flushed_first g.met.T.Target.more c.args.self.now c.make_room.new.self c.sleb.new.self (sleb128 c.args.value) c.make_room.ensures.adds (λ room. omega (arith, c.make_room.ensures.room room, sleb128-size c.args.value)) push
