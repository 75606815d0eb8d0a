use Rattle.dexclass.proofs.Common.{map, take}
use Rattle.dexclass.specs.{image_or_same}
use Rattle.dexclass.proofs.Shorts.{AreShorts}
use Rattle.dexclass.proofs.interface_lists.remapped_shorts.Given as goal

abbrev pub invariant-loop-k : goal.invariant-loop-k
invariant-loop-k l = AreShorts l.bytes.items (map (image_or_same l.remap.types) (take l.k l.numbers))
