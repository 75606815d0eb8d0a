use Rattle.dexstr.proofs.Common.{◌≡◌, length, slice_cmp, byte_cmp}
use Rattle.dexstr.proofs.order.after_common_groups.Given as goal

abbrev pub invariant-loop-rests : goal.invariant-loop-rests
invariant-loop-rests l = slice_cmp byte_cmp l.left l.right ≡ slice_cmp byte_cmp l.fn.left l.fn.right

abbrev pub decreases-loop-rests : goal.decreases-loop-rests
decreases-loop-rests l = length l.left
