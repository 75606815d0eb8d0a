use Rattle.dexorder.proofs.Common.{◌≡◌, length, map, take}
use Rattle.dexorder.specs.{AreByType}
use Rattle.dexorder.proofs.parents.classes_by_type.Given as goal

abbrev pub invariant-loop-i : goal.invariant-loop-i
invariant-loop-i g l = record {
  count : length l.by_type.items ≡ l.types;
  done : AreByType (map g.C.HasParents.name_of (take l.i l.classes)) l.by_type.items;
}
