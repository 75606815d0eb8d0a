use Rattle.dexspec.proofs.merge.SymbolOrders.{text_total, text_exact, proto_total, proto_exact, field_total, field_exact, method_total, method_exact}
use Rattle.dexlaws.proofs.growth.order_law.Goals as goal

pub returns : goal.returns
returns c = record { texts = record { total = text_total; antisymmetric = text_exact }; protos = record { total = proto_total; antisymmetric = proto_exact }; fields = record { total = field_total; antisymmetric = field_exact }; methods = record { total = method_total; antisymmetric = method_exact } }
