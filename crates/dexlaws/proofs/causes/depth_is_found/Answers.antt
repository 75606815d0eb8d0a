use Rattle.dexspec.proofs.merge.Depths.{is_below-all, depth-is, depth-less, HasDepth-parent, depth-parent, depth-same}
use Rattle.dexlaws.proofs.Deepest.{depth_is_one_more}
use Rattle.dexlaws.proofs.causes.depth_is_found.Goals as goal

pub returns : goal.returns
returns c = record { rounds = is_below-all; depth = λ D name w. let d = depth-is D name w in record { below = d.below; not_below = d.not_below }; one_more = depth_is_one_more; bound = depth-less; parents = λ D name parent w m. record { deep = HasDepth-parent D name parent w m; less = depth-parent D name parent w m }; alone = λ D E name same. depth-same D E name (λ d. (same d).0) (λ d. (same d).1) }
