use Rattle.dexspec.proofs.normal.ClassOrder.{in_class_order-same_sum, definitions-distinct}
use Rattle.dexlaws.proofs.size.class_order_law.Goals as goal

pub returns : goal.returns
returns c = record { names = definitions-distinct; sums = in_class_order-same_sum }
