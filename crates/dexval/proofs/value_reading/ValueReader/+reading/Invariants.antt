use Rattle.dexval.proofs.Common.{◌≡◌, ◌+◌, ◌-◌, ◌*◌, ◌^◌, ◌≤◌, min, false, [], length, map, value_of, values_of, element_of, elements_of, numbered_values_weight, numbered_elements_weight, values_uses, HasPools}
use Rattle.dexval.proofs.ValuesRead.{HaveRead}
use Rattle.dexval.proofs.ElementsRead.{HaveReadOf}
use Rattle.dexval.proofs.value_reading.ValueReader.+reading.Given as goal

abbrev pub decreases-nested_at : goal.decreases-nested_at
decreases-nested_at l = 6 * l.depth

abbrev pub decreases-value_at : goal.decreases-value_at
decreases-value_at l = 6 * l.depth + 1

abbrev pub decreases-values_at : goal.decreases-values_at
decreases-values_at l = 6 * l.depth + 2

abbrev pub decreases-element_at : goal.decreases-element_at
decreases-element_at l = 6 * l.depth + 2

abbrev pub decreases-elements_at : goal.decreases-elements_at
decreases-elements_at l = 6 * l.depth + 3

abbrev pub decreases-annotation_at : goal.decreases-annotation_at
decreases-annotation_at l = 6 * l.depth + 4

abbrev pub decreases-array_at : goal.decreases-array_at
decreases-array_at l = 6 * l.depth + 5

abbrev pub invariant-values_at-loop-i : goal.invariant-values_at-loop-i
invariant-values_at-loop-i l = record {
  within : l.at + l.size ≤ length l.self.bytes.now;
  read : HasPools l.self.bytes.now l.self.pools.now → HaveRead l.self.bytes.now l.at l.self.pools.now l.depth l.count l._i (map value_of l.values.items) l.size;
  weighs : l.weight ≡ min (2 ^ 64 - 1) (numbered_values_weight (values_of l.values.items));
  nameless : l.names_symbols ≡ false → values_uses (values_of l.values.items) ≡ [];
}

abbrev pub invariant-elements_at-loop-i : goal.invariant-elements_at-loop-i
invariant-elements_at-loop-i l = record {
  within : l.at + l.size ≤ length l.self.bytes.now;
  least_fits : l.least ≤ 2 ^ 32;
  read : HasPools l.self.bytes.now l.self.pools.now → HaveReadOf l.self.bytes.now l.at l.self.pools.now l.depth l.count l._i l.least (map element_of l.elements.items) l.size;
  weighs : l.weight ≡ min (2 ^ 64 - 1) (numbered_elements_weight (elements_of l.elements.items));
}
