use Rattle.dexspec.proofs.merge.DepthGrowth.{is_defined-within, above-within, is_below-within, HasDepth-within, IsAcyclic-within}
use Rattle.dexlaws.proofs.growth.depth_law.Goals as goal

pub returns : goal.returns
returns c = λ D E h. record {
  defined = is_defined-within D E h;
  parents = above-within D E h;
  below = is_below-within D E h;
  depth = HasDepth-within D E h;
  acyclic = IsAcyclic-within D E h;
}
