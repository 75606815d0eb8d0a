use Rattle.std.specs.Prelude.{reverse}
use Rattle.dexcanon.proofs.Common.{◌≡◌, ◌++◌, length, map, class_digest}
use Rattle.dexcanon.proofs.digest.+put_digests.Given as goal

abbrev pub decreases-put_digests : goal.decreases-put_digests
decreases-put_digests l = length l.part

abbrev pub invariant-loop-alloc : goal.invariant-loop-alloc
invariant-loop-alloc l = l.digests.items ++ reverse (map class_digest l.parts) ≡ l.fn.digests.items ++ reverse (map class_digest l.fn.part)

abbrev pub decreases-loop-alloc : goal.decreases-loop-alloc
decreases-loop-alloc l = length l.parts
