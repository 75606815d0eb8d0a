use Rattle.dexdebug.proofs.Common.{ℕ, List, length, ap, subst, arith, rules, MatchOption, Counts, NumberedDebug, NumberedDebugAt, IsShape, counts_of}
use Rattle.dexdebug.proofs.DebugBridge.{reported}
use Rattle.dexdebug.proofs.debug_reading.shape_at.Goals as goal

pub returns : goal.returns
returns c =
    reported c.args.frame.now c.args.pools.now c.args.off c.check_numbered.result (omega arith) (omega (arith, ap (length {A = ℕ}) c.bytes-bytes.ensures.bytes)) (search rules)
    (subst (λ (b : List ℕ). MatchOption c.check_numbered.result ((d : NumberedDebug) → NumberedDebugAt (counts_of c.args.pools.now) b c.args.off d → ⊥) (IsShape (counts_of c.args.pools.now) b c.args.off)) c.bytes-bytes.ensures.bytes
    (subst (λ (k : Counts). MatchOption c.check_numbered.result ((d : NumberedDebug) → NumberedDebugAt k c.bytes-bytes.result.now c.args.off d → ⊥) (IsShape k c.bytes-bytes.result.now c.args.off)) c.counts_of-counts.ensures c.check_numbered.ensures))
