use Rattle.dexspec.proofs.strip.StripUnion.{strip-twice}
use Rattle.dexspec.proofs.strip.StripWithoutDebug.{no_debug-strip, strip_body-without_debug}
use Rattle.dexlaws.proofs.strip.strip_without_debug.Goals as goal
use Rattle.dexspec.proofs.Common.{refl}

pub returns : goal.returns
returns c = record { without_debug = λ b. record { source = refl; direct_methods = no_debug-strip b.direct_methods; virtual_methods = no_debug-strip b.virtual_methods }; unchanged = λ b h. strip_body-without_debug b h.source h.direct_methods h.virtual_methods; twice = strip-twice }
