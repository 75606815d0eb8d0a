use Rattle.dexval.proofs.Common.{◌≡◌, ◌-◌, ◌*◌, ◌^◌, ◌≤◌}
use Rattle.dexval.proofs.widths.bits_width.Given as goal

abbrev pub invariant-loop-left : goal.invariant-loop-left
invariant-loop-left l = record { some : 1 ≤ l.left; few : l.left ≤ l.width; whole : l.bits ≡ 256 ^ (l.width - l.left) * l.rest }

abbrev pub decreases-loop-left : goal.decreases-loop-left
decreases-loop-left l = l.left - 1
