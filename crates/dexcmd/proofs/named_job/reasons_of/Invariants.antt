use Rattle.std.proofs.Common.{map, string_bytes}
use Rattle.dexcmd.specs.Explaining.{AreTextsOf}
use Rattle.dexcmd.proofs.named_job.reasons_of.Given as goal

-- the reasons of the inputs so far
abbrev pub invariant-loop-input : goal.invariant-loop-input
invariant-loop-input g l = AreTextsOf (map g.D.Inputs.error_of l.yielded) (map string_bytes l.reasons.unread.items)
