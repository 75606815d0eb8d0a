use Rattle.dexout.proofs.Common.{length, Completes, Adds}
use Rattle.dexout.proofs.output.Out.bytes_in_parts.Given as goal

-- a prefix was written, and the rest is left
abbrev pub invariant-parts : goal.invariant-parts
invariant-parts g l = Completes (Adds g.T.Target.gives g.T.Target.gives_prefix g.T.Target.has_failed) l.rest l.self l.bytes l.fn.self

abbrev pub decreases-parts : goal.decreases-parts
decreases-parts g l = length l.rest
