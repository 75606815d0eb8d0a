use Rattle.dexdebug.proofs.Common.{All, flat_map, uleb128p1, Completes, FitsIndex}
use Rattle.dexdebug.proofs.debug_put.encode_names.Given as goal

abbrev pub invariant-loop-name : goal.invariant-loop-name
invariant-loop-name g l = record { formed : All FitsIndex l.name-iterator; completes : Completes g.O.Output.gives (flat_map uleb128p1 l.name-iterator) l.out (flat_map uleb128p1 l.fn.names) l.initial.out }
