use Rattle.dexdebug.proofs.Common.{All, flat_map, Completes, IsFormedOperation, numbered_operation_bytes}
use Rattle.dexdebug.proofs.debug_put.encode_operations.Given as goal

abbrev pub invariant-loop-operation : goal.invariant-loop-operation
invariant-loop-operation g l = record { formed : All IsFormedOperation l.operation-iterator; completes : Completes g.O.Output.gives (flat_map numbered_operation_bytes l.operation-iterator) l.out (flat_map numbered_operation_bytes l.fn.operations) l.initial.out }
