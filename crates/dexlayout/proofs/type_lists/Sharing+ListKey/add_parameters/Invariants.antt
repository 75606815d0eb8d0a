use Rattle.dexlayout.proofs.Common.{◌≡◌, ◌+◌, ◌++◌, length, map, take, List, Option, unless_empty, Text, SharesLists}
use Rattle.dexlayout.proofs.type_lists.Sharing+ListKey.add_parameters.Given as goal

abbrev pub invariant-loop-i : goal.invariant-loop-i
invariant-loop-i l = record {
  before : l.before ≡ length l.fn.self.numbers.items;
  more : length l.self.numbers.items ≡ l.before + l.i;
  uses : (uses : List (Option (List Text))) → SharesLists l.numbering uses l.fn.self.items.keys l.fn.self.numbers.items
      → SharesLists l.numbering (uses ++ map (λ p. unless_empty p.parameters) (take l.i l.numbering.protos)) l.self.items.keys l.self.numbers.items;
}
