use Rattle.dexinsn.proofs.Fits.{short_named, short_denoted}
use Rattle.dexinsn.proofs.laws.short_strings_law.Goals as goal

pub returns : goal.returns
returns c = record { named = short_named; encodes = short_denoted }
