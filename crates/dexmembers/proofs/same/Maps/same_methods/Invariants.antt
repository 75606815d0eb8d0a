use Rattle.dexmembers.proofs.Common.{◌≡◌, length, map, take}
use Rattle.dexmembers.specs.{renumbered_method}
use Rattle.dexmembers.proofs.same.Maps.same_methods.Given as goal

abbrev pub invariant-loop-i : goal.invariant-loop-i
invariant-loop-i l = record {
  count : length l.methods ≡ length l.others;
  same : map (renumbered_method l.self.mine.now) (take l.i l.methods) ≡ map (renumbered_method l.self.theirs.now) (take l.i l.others);
}
