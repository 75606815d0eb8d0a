use Rattle.dexstr.proofs.Common.{◌≡◌, ◌+◌, drop, dimensions}
use Rattle.dexstr.proofs.descriptors.dimensions.Given as goal

abbrev pub invariant-loop-i : goal.invariant-loop-i
invariant-loop-i l = l.i + dimensions (drop l.i l.bytes) ≡ dimensions l.bytes
