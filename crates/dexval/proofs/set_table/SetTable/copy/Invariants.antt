use Rattle.dexval.proofs.Common.{◌≡◌, take, map}
use Rattle.dexval.specs.KeptSets.{set_in}
use Rattle.dexval.proofs.set_table.SetTable.copy.Given as goal

abbrev pub invariant-loop-set : goal.invariant-loop-set
invariant-loop-set l = map set_in l.sets.items ≡ take l.set-index l.self.sets

abbrev pub invariant-loop-list : goal.invariant-loop-list
invariant-loop-list l = map (λ v. v.items) l.lists.items ≡ take l.list-index l.self.lists
