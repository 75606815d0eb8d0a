use Rattle.dexmembers.proofs.Common.{◌≡◌, map}
use Rattle.dexmembers.specs.internal.SharedCodes.{stored_with}
use Rattle.dexmembers.proofs.shared_members.shared_codes.Given as goal

abbrev pub invariant-loop-item : goal.invariant-loop-item
invariant-loop-item l = map stored_with l.shared.items ≡ l.yielded
