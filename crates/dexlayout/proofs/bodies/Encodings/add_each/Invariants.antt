use Rattle.dexlayout.proofs.Common.{◌++◌, ℕ, List, Option, take, same_bytes, HasUses, debug_encodings}
use Rattle.dexlayout.proofs.bodies.Encodings.add_each.Given as goal

abbrev pub invariant-loop-i : goal.invariant-loop-i
invariant-loop-i l = (uses : List (Option (List ℕ))) → HasUses same_bytes uses l.fn.self.sharing → HasUses same_bytes (uses ++ debug_encodings (take l.i l.methods)) l.self.sharing
