use Rattle.dexspec.proofs.merge.WeightGrowth.{weight-within, weight-same}
use Rattle.dexlaws.proofs.growth.weight_law.Goals as goal

pub returns : goal.returns
returns c = record { same = λ D E d e h. weight-same D E d e (λ x. (h x).0) (λ x. (h x).1); grow = weight-within }
