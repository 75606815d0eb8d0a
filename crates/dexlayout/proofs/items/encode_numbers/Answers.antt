use Rattle.dexlayout.proofs.Common.{uint, given_more, given_all}
use Rattle.dexlayout.proofs.items.encode_numbers.Goals as goal

pub loop-number-preserved : goal.loop-number-preserved
loop-number-preserved g c = given_more g.O.Output.gives g.met.O.Output.both uint c.args.numbers.now c.loop-number.number-index 0 c.args.out.now c.loop-number.out c.u32.new.self c.loop-number-test.true c.loop-number.invariant c.u32.ensures

pub returns : goal.returns
returns g c = given_all g.O.Output.gives g.met.O.Output.both uint c.args.numbers.now c.loop-number.number-index c.args.out.now c.loop-number.out c.loop-number-test.false c.loop-number.invariant
