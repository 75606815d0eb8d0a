use Rattle.dexspec.proofs.strip.StripUnion.{is_defined-strip, above-strip, is_below-strip, depth-strip}
use Rattle.dexspec.proofs.strip.StripGood.{HasDepth-strip, HasDepth-strip_source, IsAcyclic-strip, IsAcyclic-strip_source, IsCycle-strip, IsCycle-strip_source}
use Rattle.dexspec.proofs.strip.StripOrder.{in_class_order-strip}
use Rattle.dexlaws.proofs.strip.strip_depth.Goals as goal

pub returns : goal.returns
returns c = λ D. record {
  defined = is_defined-strip D;
  parents = above-strip D;
  below = is_below-strip D;
  some = λ name. (HasDepth-strip_source D name, HasDepth-strip D name);
  acyclic = (IsAcyclic-strip_source D, IsAcyclic-strip D);
  cycles = λ name. (IsCycle-strip_source D name, IsCycle-strip D name);
  depths = depth-strip D;
  order = in_class_order-strip D;
}
