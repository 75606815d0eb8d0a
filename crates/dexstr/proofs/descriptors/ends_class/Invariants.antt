use Rattle.dexstr.proofs.Common.{◌≡◌, drop, false, ends_class}
use Rattle.dexstr.proofs.descriptors.ends_class.Given as goal

abbrev pub invariant-loop-i : goal.invariant-loop-i
invariant-loop-i l = ends_class l.begun (drop l.i l.bytes) ≡ ends_class false l.bytes
