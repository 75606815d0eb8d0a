use Rattle.dexval.proofs.Common.{◌≡◌, length, map, take, annotation_of, renumbered_annotation}
use Rattle.dexval.proofs.same.is_same_set.Given as goal

abbrev pub invariant-loop-i : goal.invariant-loop-i
invariant-loop-i g l = record {
  count : length l.annotations.items ≡ length l.others.items;
  same : map (renumbered_annotation (g.M.NumberMap.maps l.mine)) (map annotation_of (take l.i l.annotations.items)) ≡ map (renumbered_annotation (g.N.NumberMap.maps l.theirs)) (map annotation_of (take l.i l.others.items));
}
