use Rattle.dexlayout.proofs.Common.{take, same_bytes, HasUses, all_debug_encodings}
use Rattle.dexlayout.proofs.bodies.share_encodings.Given as goal

abbrev pub invariant-loop-i : goal.invariant-loop-i
invariant-loop-i l = HasUses same_bytes (all_debug_encodings (take l.i l.input.classes.now)) l.encodings.sharing
