use Rattle.dexmembers.proofs.Common.{length, map, ◌+◌, ◌-◌}
use Rattle.dexmembers.specs.internal.EncodedMembers.{ArePassed}
use Rattle.dexmembers.proofs.encoded_lists.are_apart.Given as goal

abbrev pub invariant-loop-i : goal.invariant-loop-i
invariant-loop-i g l = ArePassed (map g.T.Encoded.index_of l.left) (map g.T.Encoded.index_of l.right) l.i l.j

abbrev pub decreases-loop-i : goal.decreases-loop-i
decreases-loop-i g l = (length l.left + length l.right) - (l.i + l.j)
