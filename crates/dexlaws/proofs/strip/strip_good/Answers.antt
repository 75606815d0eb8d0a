use Rattle.dexspec.proofs.strip.StripGood.{IsConsistent-strip, IsConflict-strip, Fits-strip, IsGood-strip, IsCause-strip}
use Rattle.dexspec.proofs.strip.StripWellFormed.{IsWellFormed-strip, AreWellFormed-strip}
use Rattle.dexlaws.proofs.strip.strip_good.Goals as goal

pub returns : goal.returns
returns c = record { good = λ caps D. IsGood-strip D caps; fits = λ caps D. Fits-strip D caps; consistent = IsConsistent-strip; conflict = IsConflict-strip; cause = λ caps D. IsCause-strip D caps; definition = IsWellFormed-strip; well_formed = AreWellFormed-strip }
