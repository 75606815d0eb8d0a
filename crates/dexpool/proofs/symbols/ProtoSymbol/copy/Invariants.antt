use Rattle.dexpool.proofs.Common.{◌≡◌, take}
use Rattle.dexpool.proofs.symbols.ProtoSymbol.copy.Given as goal

abbrev pub invariant-loop-name : goal.invariant-loop-name
invariant-loop-name l = l.parameters.items ≡ take l.name-index l.name-items
