use Rattle.dexexamples.proofs.Common.{refl, adler_32}
use Rattle.dexexamples.proofs.leb128.adler_sums.Goals as goal

pub returns-clause-nothing : goal.returns-clause-nothing
unfolding adler_32
returns-clause-nothing c = refl

pub returns-clause-letter : goal.returns-clause-letter
unfolding adler_32
returns-clause-letter c = refl

pub returns-clause-word : goal.returns-clause-word
unfolding adler_32
returns-clause-word c = refl
