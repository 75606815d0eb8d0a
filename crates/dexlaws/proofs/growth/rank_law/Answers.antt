use Rattle.dexspec.proofs.Common.{Ordering, IsTotalOrder}
use Rattle.dexspec.specs.Texts.{text_cmp}
use Rattle.dexspec.specs.Symbols.{proto_cmp, field_cmp, method_cmp}
use Rattle.dexspec.proofs.merge.SymbolOrders.{text_total, proto_total, field_total, method_total}
use Rattle.dexspec.proofs.lists.InOrder.{Rises-from_rises, rank-get_or, rank-place}
use Rattle.dexlaws.specs.{RanksArePlaces}
use Rattle.dexlaws.proofs.growth.rank_law.Goals as goal

places : {K : Type 0} (R : K → K → Ordering) → IsTotalOrder R → RanksArePlaces R
places R o = record {
  rank_at = λ xs i d h lt. rank-get_or R o xs i d (Rises-from_rises R o xs h) lt;
  within = λ xs s h c. (rank-place R o xs s s (Rises-from_rises R o xs h) c).0;
  place = λ xs s d h c. (rank-place R o xs s d (Rises-from_rises R o xs h) c).1;
}

pub returns : goal.returns
returns c = record { texts = places text_cmp text_total; protos = places proto_cmp proto_total; fields = places field_cmp field_total; methods = places method_cmp method_total }
