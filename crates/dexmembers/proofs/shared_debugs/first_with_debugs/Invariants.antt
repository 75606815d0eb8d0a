use Rattle.dexmembers.proofs.Common.{List}
use Rattle.dexdebug.specs.Debug.{NumberedDebug}
use Rattle.dexmembers.proofs.SharedDebugs.{AreFirsts, AreSameTo, placed_debug, stored_place}
use Rattle.dexmembers.proofs.shared_debugs.first_with_debugs.Given as goal

abbrev pub invariant-loop-i : goal.invariant-loop-i
invariant-loop-i g l = record {
  same : (debugs : List NumberedDebug) → AreSameTo (placed_debug debugs l.items) (stored_place l.items) l.methods l.i l.places.items;
  known : (debugs : List NumberedDebug) → AreFirsts (placed_debug debugs l.items) (stored_place l.items) l.methods l.i l.firsts.items;
}
