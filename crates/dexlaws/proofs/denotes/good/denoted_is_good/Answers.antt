use Rattle.dexspec.proofs.wellformed.ShortStrings.{denoted_good}
use Rattle.dexspec.proofs.wellformed.FormedCode.{denoted_well_formed}
use Rattle.dexlaws.proofs.denotes.good.denoted_is_good.Goals as goal

pub returns : goal.returns
returns c = record { good = λ b K bytes h denotes. denoted_good b bytes h K denotes; formed = λ b K bytes h denotes. denoted_well_formed b bytes h K denotes }
