use Rattle.dexval.proofs.Common.{◌≡◌, length, map, take, value_of, element_of, renumbered, renumbered_element}
use Rattle.dexval.proofs.same.+comparing.Given as goal

abbrev pub invariant-are_same-loop-i : goal.invariant-are_same-loop-i
invariant-are_same-loop-i g l = record {
  count : length l.values ≡ length l.others;
  same : map (renumbered (g.M.NumberMap.maps l.mine)) (map value_of (take l.i l.values)) ≡ map (renumbered (g.N.NumberMap.maps l.theirs)) (map value_of (take l.i l.others));
}

abbrev pub invariant-are_same_elements-loop-i : goal.invariant-are_same_elements-loop-i
invariant-are_same_elements-loop-i g l = record {
  count : length l.elements ≡ length l.others;
  same : map (renumbered_element (g.M.NumberMap.maps l.mine)) (map element_of (take l.i l.elements)) ≡ map (renumbered_element (g.N.NumberMap.maps l.theirs)) (map element_of (take l.i l.others));
}
