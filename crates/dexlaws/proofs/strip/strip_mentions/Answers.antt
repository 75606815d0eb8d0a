use Rattle.dexspec.proofs.Common.{List, Ordering, IsTotalOrder}
use Rattle.dexspec.specs.Texts.{text_cmp}
use Rattle.dexspec.specs.Symbols.{proto_cmp, field_cmp, method_cmp}
use Rattle.dexspec.specs.Mentions.{mentions}
use Rattle.dexspec.specs.Stripping.{strip}
use Rattle.dexspec.proofs.lists.Members.{AreAmong, length-among}
use Rattle.dexspec.proofs.merge.SymbolOrders.{text_total, proto_total, field_total, method_total}
use Rattle.dexspec.proofs.lists.InOrder.{Rises, AreDistinct-from_Rises, rank-among}
use Rattle.dexspec.proofs.merge.Growth.{mentions-rising}
use Rattle.dexspec.proofs.strip.StripMentions.{symbols_of-strip, mentions-strip, HasShortString-strip, HasShortString-strip_source}
use Rattle.dexspec.proofs.strip.StripKept.{protos-kept, fields-kept, methods-kept}
use Rattle.dexlaws.specs.{IsPartOf}
use Rattle.dexlaws.proofs.strip.strip_mentions.Goals as goal

part : {K : Type 0} (R : K → K → Ordering) → IsTotalOrder R → (xs ys : List K) → Rises R xs → AreAmong xs ys → IsPartOf R xs ys
part R o xs ys r h = record {
  members = h;
  lengths = length-among xs ys (AreDistinct-from_Rises R o xs r) h;
  ranks = λ s. rank-among R o s xs ys r h;
}

pub returns : goal.returns
returns c = record {
  symbols = symbols_of-strip;
  lists = λ D.
      let m = mentions (strip D) in
      let n = mentions D in
      let r = mentions-rising (strip D) in
      let a = mentions-strip D in record {
        texts = part text_cmp text_total m.texts n.texts r.texts a.texts;
        types = part text_cmp text_total m.types n.types r.types a.types;
        protos = part proto_cmp proto_total m.protos n.protos r.protos a.protos;
        fields = part field_cmp field_total m.fields n.fields r.fields a.fields;
        methods = part method_cmp method_total m.methods n.methods r.methods a.methods;
      };
  protos = protos-kept;
  fields = fields-kept;
  methods = methods-kept;
  short = λ D s. (HasShortString-strip_source D s, HasShortString-strip D s);
}
