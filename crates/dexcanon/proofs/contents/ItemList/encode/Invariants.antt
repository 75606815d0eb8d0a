use Rattle.dexcanon.proofs.Common.{drop, concat, Completes}
use Rattle.dexcanon.proofs.contents.ItemList.encode.Given as goal

abbrev pub invariant-loop-i : goal.invariant-loop-i
invariant-loop-i g l = Completes g.O.Output.gives (concat (drop l.i (g.Self.ItemList.items l.contents))) l.out (concat (g.Self.ItemList.items l.contents)) l.fn.out
