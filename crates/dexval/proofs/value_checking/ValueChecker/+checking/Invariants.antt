use Rattle.dexval.proofs.Common.{◌+◌, ◌*◌, ◌^◌, ◌≤◌, length, HasPools}
use Rattle.dexval.proofs.NestedChecked.{ValuesChecked, ElementsChecked}
use Rattle.dexval.proofs.value_checking.ValueChecker.+checking.Given as goal

abbrev pub decreases-value_measure : goal.decreases-value_measure
decreases-value_measure l = 5 * l.depth

abbrev pub decreases-array_measure : goal.decreases-array_measure
decreases-array_measure l = 5 * l.depth + 4

abbrev pub decreases-element_measure : goal.decreases-element_measure
decreases-element_measure l = 5 * l.depth + 1

abbrev pub decreases-elements_measure : goal.decreases-elements_measure
decreases-elements_measure l = 5 * l.depth + 2

abbrev pub decreases-annotation_measure : goal.decreases-annotation_measure
decreases-annotation_measure l = 5 * l.depth + 3

abbrev pub invariant-array_measure-loop-i : goal.invariant-array_measure-loop-i
invariant-array_measure-loop-i l = record { within : l.at + l.head + l.size ≤ length l.self.bytes.now; light : l.weight ≤ 9 * l.size; checked : HasPools l.self.bytes.now l.self.pools.now → ValuesChecked l.self.bytes.now (l.at + l.head) l.self.pools.now l.depth l.count l._i l.size l.weight }

abbrev pub invariant-elements_measure-loop-i : goal.invariant-elements_measure-loop-i
invariant-elements_measure-loop-i l = record {
  within : l.at + l.size ≤ length l.self.bytes.now;
  light : l.weight ≤ 9 * l.size;
  least_fits : l.least ≤ 2 ^ 32;
  checked : HasPools l.self.bytes.now l.self.pools.now → ElementsChecked l.self.bytes.now l.at l.self.pools.now l.depth l.count l._i l.least l.size l.weight;
}
