-- The mentioned symbols do not become fewer as definitions are added.
use Rattle.dexspec.proofs.Common.{◌≡◌, List, flat_map, Mentions}
use Rattle.dexspec.specs.{text_cmp, Symbol, proto_cmp, field_cmp, method_cmp, Definition, AreWithin, closed, mentions, symbols_of, texts_in, types_in, protos_in, fields_in, methods_in}
use Rattle.dexspec.proofs.lists.{AreAmong, AreAmong-flat_map, Rises, Rises-in_order, in_order-among, in_order-same}
use Rattle.dexspec.proofs.merge.SymbolOrders.{text_total, text_exact, proto_total, proto_exact, field_total, field_exact, method_total, method_exact}

-- the five lists rise
pub record AreRising (m : Mentions) : Type 0 where
  pub texts : Rises text_cmp m.texts
  pub types : Rises text_cmp m.types
  pub protos : Rises proto_cmp m.protos
  pub fields : Rises field_cmp m.fields
  pub methods : Rises method_cmp m.methods

-- each of the five lists of the first is contained in that of the second
pub record AreMentioned (m n : Mentions) : Type 0 where
  pub texts : AreAmong m.texts n.texts
  pub types : AreAmong m.types n.types
  pub protos : AreAmong m.protos n.protos
  pub fields : AreAmong m.fields n.fields
  pub methods : AreAmong m.methods n.methods

closed-rising : (ss : List Symbol) → AreRising (closed ss)
closed-rising ss = record {
  texts = Rises-in_order text_cmp text_total text_exact (flat_map texts_in ss);
  types = Rises-in_order text_cmp text_total text_exact (flat_map types_in ss);
  protos = Rises-in_order proto_cmp proto_total proto_exact (flat_map protos_in ss);
  fields = Rises-in_order field_cmp field_total field_exact (flat_map fields_in ss);
  methods = Rises-in_order method_cmp method_total method_exact (flat_map methods_in ss);
}

closed-among : (ss ts : List Symbol) → AreAmong ss ts → AreMentioned (closed ss) (closed ts)
closed-among ss ts h = record {
  texts = in_order-among text_cmp text_total text_exact (flat_map texts_in ss) (flat_map texts_in ts) (AreAmong-flat_map texts_in ss ts h);
  types = in_order-among text_cmp text_total text_exact (flat_map types_in ss) (flat_map types_in ts) (AreAmong-flat_map types_in ss ts h);
  protos = in_order-among proto_cmp proto_total proto_exact (flat_map protos_in ss) (flat_map protos_in ts) (AreAmong-flat_map protos_in ss ts h);
  fields = in_order-among field_cmp field_total field_exact (flat_map fields_in ss) (flat_map fields_in ts) (AreAmong-flat_map fields_in ss ts h);
  methods = in_order-among method_cmp method_total method_exact (flat_map methods_in ss) (flat_map methods_in ts) (AreAmong-flat_map methods_in ss ts h);
}

closed-same : (ss ts : List Symbol) → AreAmong ss ts → AreAmong ts ss → closed ss ≡ closed ts
closed-same ss ts f g =
    let texts = in_order-same text_cmp text_total text_exact (flat_map texts_in ss) (flat_map texts_in ts) (AreAmong-flat_map texts_in ss ts f) (AreAmong-flat_map texts_in ts ss g) in
    let types = in_order-same text_cmp text_total text_exact (flat_map types_in ss) (flat_map types_in ts) (AreAmong-flat_map types_in ss ts f) (AreAmong-flat_map types_in ts ss g) in
    let protos = in_order-same proto_cmp proto_total proto_exact (flat_map protos_in ss) (flat_map protos_in ts) (AreAmong-flat_map protos_in ss ts f) (AreAmong-flat_map protos_in ts ss g) in
    let fields = in_order-same field_cmp field_total field_exact (flat_map fields_in ss) (flat_map fields_in ts) (AreAmong-flat_map fields_in ss ts f) (AreAmong-flat_map fields_in ts ss g) in
    let methods = in_order-same method_cmp method_total method_exact (flat_map methods_in ss) (flat_map methods_in ts) (AreAmong-flat_map methods_in ss ts f) (AreAmong-flat_map methods_in ts ss g) in
    λ i. record { texts = texts i; types = types i; protos = protos i; fields = fields i; methods = methods i }

pub mentions-rising : (D : List Definition) → AreRising (mentions D)
unfolding mentions
mentions-rising D = closed-rising (flat_map symbols_of D)

pub mentions-among : (D E : List Definition) → AreWithin D E → AreMentioned (mentions D) (mentions E)
unfolding mentions
mentions-among D E h = closed-among (flat_map symbols_of D) (flat_map symbols_of E) (AreAmong-flat_map symbols_of D E h)

-- they depend on the members alone
pub mentions-same : (D E : List Definition) → AreWithin D E → AreWithin E D → mentions D ≡ mentions E
unfolding mentions
mentions-same D E f g = closed-same (flat_map symbols_of D) (flat_map symbols_of E) (AreAmong-flat_map symbols_of D E f) (AreAmong-flat_map symbols_of E D g)
