use Rattle.dexpool.proofs.Common.{◌≡◌, map, take, All, HasSpan, numbers_of}
use Rattle.dexpool.proofs.renumbering.stored.Given as goal

abbrev pub invariant-loop-proto : goal.invariant-loop-proto
invariant-loop-proto l = record { rows : map (numbers_of l.parameters.items) l.rows.items ≡ take l.proto-index l.protos; spans : All (λ entry. HasSpan l.parameters.items entry.parameters) l.rows.items }
