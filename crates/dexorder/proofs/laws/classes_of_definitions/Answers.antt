use Rattle.dexorder.proofs.DefinitionDepths.{classes_of_parents}
use Rattle.dexorder.proofs.laws.classes_of_definitions.Goals as goal

pub returns : goal.returns
returns c = λ D classes e distinct count within h. classes_of_parents D classes e distinct count within h
