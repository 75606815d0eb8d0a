use Rattle.dexpool.proofs.Common.{◌≡◌, map, take, numbers_of}
use Rattle.dexpool.proofs.renumbering.proto_rows.Given as goal

abbrev pub invariant-loop-entry : goal.invariant-loop-entry
invariant-loop-entry l = l.rows.items ≡ map (numbers_of l.protos.parameters.items) (take l.entry-index l.protos.rows.items)
