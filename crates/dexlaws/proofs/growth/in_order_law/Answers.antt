use Rattle.dexspec.proofs.Common.{Ordering, IsTotalOrder}
use Rattle.std.specs.FinMap.{IsAntisymmetric}
use Rattle.dexspec.specs.Texts.{text_cmp}
use Rattle.dexspec.specs.Symbols.{proto_cmp, field_cmp, method_cmp}
use Rattle.dexspec.proofs.merge.SymbolOrders.{text_total, text_exact, proto_total, proto_exact, field_total, field_exact, method_total, method_exact}
use Rattle.dexspec.proofs.lists.InOrder.{rises-in_order, in_order-has, in_order-only, in_order-same}
use Rattle.dexlaws.specs.{PutsInOrder}
use Rattle.dexlaws.proofs.growth.in_order_law.Goals as goal

puts : {K : Type 0} (R : K → K → Ordering) → IsTotalOrder R → IsAntisymmetric R → PutsInOrder R
puts R o exact = record {
  rising = rises-in_order R o exact;
  members = λ xs x. (in_order-only R o exact xs x, in_order-has R o exact xs x);
  alone = λ xs ys same. in_order-same R o exact xs ys (λ x. (same x).0) (λ x. (same x).1);
}

pub returns : goal.returns
returns c = record { texts = puts text_cmp text_total text_exact; protos = puts proto_cmp proto_total proto_exact; fields = puts field_cmp field_total field_exact; methods = puts method_cmp method_total method_exact }
