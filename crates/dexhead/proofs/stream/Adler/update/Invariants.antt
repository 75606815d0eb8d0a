use Rattle.dexhead.proofs.Common.{◌≡◌, length, adler_sums}
use Rattle.dexhead.proofs.stream.Adler.update.Given as goal

-- what is left completes the sums
abbrev pub invariant-parts : goal.invariant-parts
invariant-parts l = adler_sums l.self l.rest ≡ adler_sums l.fn.self l.bytes

abbrev pub decreases-parts : goal.decreases-parts
decreases-parts l = length l.rest
