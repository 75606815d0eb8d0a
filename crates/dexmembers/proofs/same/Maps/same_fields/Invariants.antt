use Rattle.dexmembers.proofs.Common.{◌≡◌, length, map, take}
use Rattle.dexmembers.specs.{renumbered_field}
use Rattle.dexmembers.proofs.same.Maps.same_fields.Given as goal

abbrev pub invariant-loop-i : goal.invariant-loop-i
invariant-loop-i l = record {
  count : length l.fields ≡ length l.others;
  same : map (renumbered_field l.self.mine.now) (take l.i l.fields) ≡ map (renumbered_field l.self.theirs.now) (take l.i l.others);
}
