use Rattle.std.proofs.Common.{not}
use Rattle.dexpool.specs.Cut.{kept}
use Rattle.dexclass.proofs.Common.{◌≡◌, length, map}
use Rattle.dexclass.proofs.parts.divide.Given as goal

-- the first classes are divided
abbrev pub invariant-loop-class : goal.invariant-loop-class
invariant-loop-class l = record {
  place : l.place ≡ length l.yielded;
  chosen : l.divided.chosen.items ≡ kept l.flags l.yielded;
  others : l.divided.others.items ≡ kept (map not l.flags) l.yielded;
}
