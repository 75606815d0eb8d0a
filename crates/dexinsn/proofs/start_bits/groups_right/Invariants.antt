use Rattle.dexinsn.proofs.Common.{take, pos, ◌+ℤ◌, All, HasPlaces}
use Rattle.dexinsn.proofs.start_bits.groups_right.Given as goal

abbrev pub invariant-loop-group : goal.invariant-loop-group
invariant-loop-group l = All (λ g. HasPlaces l.words (pos l.at +ℤ g.first) g.bits) (take l.group-index l.groups)
