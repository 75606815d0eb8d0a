use Rattle.dexcode.proofs.Common.{given_more, given_all, placed_try_bytes}
use Rattle.dexcode.proofs.code_put.encode_items.Goals as goal

pub loop-item-preserved : goal.loop-item-preserved
loop-item-preserved g c = given_more g.O.Output.gives g.met.O.Output.both (placed_try_bytes c.args.places.now) c.args.tries.now c.loop-item.item-index (record { start_addr = 0; insn_count = 0; handler = 0 }) c.args.out.now c.loop-item.out c.encode_try.new.out c.loop-item-test.true c.loop-item.invariant c.encode_try.ensures

pub returns : goal.returns
returns g c = given_all g.O.Output.gives g.met.O.Output.both (placed_try_bytes c.args.places.now) c.args.tries.now c.loop-item.item-index c.args.out.now c.loop-item.out c.loop-item-test.false c.loop-item.invariant
