use Rattle.dexmembers.proofs.Common.{◌≡◌, map}
use Rattle.dexmembers.specs.internal.SharedCodes.{debug_in}
use Rattle.dexmembers.proofs.shared_members.shared_debugs.Given as goal

abbrev pub invariant-loop-debug : goal.invariant-loop-debug
invariant-loop-debug l = map debug_in l.shared.items ≡ l.yielded
