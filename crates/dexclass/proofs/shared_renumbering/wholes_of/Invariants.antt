use Rattle.dexclass.proofs.Common.{All}
use Rattle.dexclass.specs.internal.Wholes.{IsRemapped}
use Rattle.dexclass.proofs.shared_renumbering.wholes_of.Given as goal

abbrev pub invariant-loop-k : goal.invariant-loop-k
invariant-loop-k l = All (IsRemapped l.remap) l.wholes.items
