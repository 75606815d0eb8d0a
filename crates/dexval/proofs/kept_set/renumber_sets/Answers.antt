use Rattle.dexval.proofs.Common.{arith}
use Rattle.dexval.proofs.TablesRemapped.{one_settled, next_is_ready, all_settled}
use Rattle.dexval.proofs.kept_set.renumber_sets.Goals as goal

pub renumber-requires : goal.renumber-requires
renumber-requires c = next_is_ready c.args.remap.now c.args.sets.now.items c.loop-i.sets.items c.loop-i.i c.index_mut.result.now c.loop-i.invariant c.requires (omega (arith, c.loop-i.invariant.size)) c.index_mut.ensures.value

pub loop-i-preserved : goal.loop-i-preserved
loop-i-preserved c = one_settled c.args.remap.now c.args.sets.now.items c.loop-i.sets.items c.loop-i.i c.index_mut.result.now c.renumber.new.self c.loop-i.invariant (omega (arith, c.loop-i.invariant.size)) c.index_mut.ensures.value c.renumber.ensures

pub returns-clause-sets : goal.returns-clause-sets
returns-clause-sets c = all_settled c.args.remap.now c.args.sets.now.items c.loop-i.sets.items c.loop-i.i c.loop-i.invariant (omega (arith, c.loop-i.invariant.size))
