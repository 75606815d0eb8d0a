use Rattle.dexval.proofs.Common.{◌+◌, ◌^◌, ◌≤◌, map, uint_at, annotation_of, HasPools}
use Rattle.dexval.proofs.SetsRead.{HaveReadSet}
use Rattle.dexval.proofs.set_reading.annotations_at.Given as goal

abbrev pub invariant-loop-i : goal.invariant-loop-i
invariant-loop-i l = record { least_fits : l.least ≤ 2 ^ 32; read : HasPools l.frame l.pools → HaveReadSet l.frame (l.off + 4) l.pools (uint_at l.frame l.off) l.i l.least (map annotation_of l.annotations.items) }
