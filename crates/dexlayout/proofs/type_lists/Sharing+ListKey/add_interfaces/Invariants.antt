use Rattle.dexlayout.proofs.Common.{◌≡◌, ◌+◌, ◌++◌, length, map, take, All, List, Option, Mentions, Text, IsKnownClass, SharesLists, interfaces_use}
use Rattle.dexlayout.proofs.type_lists.Sharing+ListKey.add_interfaces.Given as goal

abbrev pub invariant-loop-i : goal.invariant-loop-i
invariant-loop-i l = record {
  before : l.before ≡ length l.fn.self.numbers.items;
  more : length l.self.numbers.items ≡ l.before + l.i;
  uses : (m : Mentions) (uses : List (Option (List Text))) → All (IsKnownClass m) l.classes → SharesLists m uses l.fn.self.items.keys l.fn.self.numbers.items
      → SharesLists m (uses ++ map (interfaces_use m) (take l.i l.classes)) l.self.items.keys l.self.numbers.items;
}
