use Rattle.dexmembers.proofs.Common.{◌≡◌, length, map, take, renumbered_set}
use Rattle.dexmembers.proofs.same.Maps.same_sets.Given as goal

abbrev pub invariant-loop-i : goal.invariant-loop-i
invariant-loop-i l = record {
  count : length l.sets ≡ length l.others;
  same : map (renumbered_set l.self.mine.now) (take l.i l.sets) ≡ map (renumbered_set l.self.theirs.now) (take l.i l.others);
}
