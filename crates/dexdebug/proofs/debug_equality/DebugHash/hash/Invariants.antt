use Rattle.dexdebug.proofs.Common.{◌≡◌, flat_map, fold, hash_input-value}
use Rattle.std.specs.Hash as fed
use Rattle.dexdebug.proofs.debug_equality.DebugHash.hash.Given as goal

abbrev pub invariant-loop-name : goal.invariant-loop-name
invariant-loop-name g l = fold g.H.Hasher.write l.state (flat_map (fed.option fed.u32) l.name-iterator) ≡ fold g.H.Hasher.write l.initial.state (flat_map (fed.option fed.u32) l.self.parameter_names)

abbrev pub invariant-loop-operation : goal.invariant-loop-operation
invariant-loop-operation g l = fold g.H.Hasher.write l.state (flat_map hash_input-value.it l.operation-iterator) ≡ fold g.H.Hasher.write l.initial.state (flat_map hash_input-value.it l.self.operations)
