use Rattle.dexlayout.proofs.Common.{◌≡◌, ◌+◌, ◌++◌, ℕ, List, Option, length, take, same_bytes, HasUses, debug_encodings}
use Rattle.dexlayout.proofs.bodies.Encodings.add_shared.Given as goal

abbrev pub invariant-loop-i : goal.invariant-loop-i
invariant-loop-i l = record {
  before : l.before ≡ length l.fn.self.sharing.numbers.items;
  more : length l.self.sharing.numbers.items ≡ l.before + l.i;
  uses : (uses : List (Option (List ℕ))) → HasUses same_bytes uses l.fn.self.sharing → HasUses same_bytes (uses ++ debug_encodings (take l.i l.methods)) l.self.sharing;
}
