use Rattle.dexval.proofs.Common.{◌≡◌, length, map}
use Rattle.dexval.specs.KeptSets.{set_in}
use Rattle.dexval.proofs.TablesRemapped.{AreReady}
use Rattle.dexval.proofs.kept_set.prepare_sets.Given as goal

abbrev pub invariant-loop-i : goal.invariant-loop-i
invariant-loop-i l = record {
  size : length l.sets.items ≡ length l.initial.sets.items;
  sets : map set_in l.sets.items ≡ map set_in l.initial.sets.items;
  items : l.items ≡ l.initial.items;
  ready : AreReady l.initial.items l.i l.sets.items;
}
