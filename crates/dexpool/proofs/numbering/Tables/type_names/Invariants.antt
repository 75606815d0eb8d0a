use Rattle.dexpool.proofs.Common.{◌≡◌, map, take, type_of}
use Rattle.dexpool.proofs.numbering.Tables.type_names.Given as goal

abbrev pub invariant-loop-i : goal.invariant-loop-i
invariant-loop-i l = l.names.items ≡ map (type_of l.self.strings.items l.self.types.items) (take l.i l.types)
