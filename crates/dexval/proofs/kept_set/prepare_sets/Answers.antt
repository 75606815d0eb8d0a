use Rattle.dexval.proofs.Common.{◌∙◌, subst, length-set, Maps}
use Rattle.dexval.specs.KeptSets.{IsReady}
use Rattle.dexval.proofs.TablesRemapped.{one_moved, one_ready}
use Rattle.dexval.proofs.kept_set.prepare_sets.Goals as goal

pub returns-in_err-prepare-clause-sets : goal.returns-in_err-prepare-clause-sets
returns-in_err-prepare-clause-sets c = one_moved c.loop-i.sets.items c.loop-i.i c.index_mut.result.now c.prepare.new.self c.index_mut.ensures.value c.prepare.ensures.set ∙ c.loop-i.invariant.sets

pub loop-i-preserved : goal.loop-i-preserved
loop-i-preserved c = record {
  size = length-set c.loop-i.sets.items c.loop-i.i c.prepare.new.self ∙ c.loop-i.invariant.size;
  sets = one_moved c.loop-i.sets.items c.loop-i.i c.index_mut.result.now c.prepare.new.self c.index_mut.ensures.value c.prepare.ensures.set ∙ c.loop-i.invariant.sets;
  items = c.prepare.ensures.items ∙ c.loop-i.invariant.items;
  ready = one_ready c.args.items.now c.loop-i.sets.items c.loop-i.i c.prepare.new.self c.loop-i.invariant.ready (subst (λ (r : Maps). IsReady r c.prepare.new.self) c.loop-i.invariant.items c.in_ok-prepare.ensures.ready);
}
