use Rattle.dexspec.proofs.Common.{List, Ordering, IsTotalOrder}
use Rattle.dexspec.specs.Texts.{text_cmp}
use Rattle.dexspec.specs.Symbols.{proto_cmp, field_cmp, method_cmp}
use Rattle.dexspec.specs.Mentions.{mentions}
use Rattle.dexspec.proofs.lists.Members.{AreAmong, length-among}
use Rattle.dexspec.proofs.merge.SymbolOrders.{text_total, proto_total, field_total, method_total}
use Rattle.dexspec.proofs.lists.InOrder.{Rises, rises-from_Rises, AreDistinct-from_Rises, rank-among}
use Rattle.dexspec.proofs.merge.Growth.{mentions-rising, mentions-among, mentions-same}
use Rattle.dexlaws.specs.{IsPartOf}
use Rattle.dexlaws.proofs.growth.mentions_law.Goals as goal

part : {K : Type 0} (R : K → K → Ordering) → IsTotalOrder R → (xs ys : List K) → Rises R xs → AreAmong xs ys → IsPartOf R xs ys
part R o xs ys r h = record {
  members = h;
  lengths = length-among xs ys (AreDistinct-from_Rises R o xs r) h;
  ranks = λ s. rank-among R o s xs ys r h;
}

pub returns-clause-grow : goal.returns-clause-grow
returns-clause-grow c = λ D E h.
    let m = mentions D in
    let n = mentions E in
    let r = mentions-rising D in
    let a = mentions-among D E h in record {
      texts = part text_cmp text_total m.texts n.texts r.texts a.texts;
      types = part text_cmp text_total m.types n.types r.types a.types;
      protos = part proto_cmp proto_total m.protos n.protos r.protos a.protos;
      fields = part field_cmp field_total m.fields n.fields r.fields a.fields;
      methods = part method_cmp method_total m.methods n.methods r.methods a.methods;
    }

pub returns-clause-rise : goal.returns-clause-rise
returns-clause-rise c = λ D.
    let m = mentions D in
    let r = mentions-rising D in record {
      texts = rises-from_Rises text_cmp m.texts r.texts;
      types = rises-from_Rises text_cmp m.types r.types;
      protos = rises-from_Rises proto_cmp m.protos r.protos;
      fields = rises-from_Rises field_cmp m.fields r.fields;
      methods = rises-from_Rises method_cmp m.methods r.methods;
    }

pub returns-clause-same : goal.returns-clause-same
returns-clause-same c = λ D E h. mentions-same D E (λ d. (h d).0) (λ d. (h d).1)
