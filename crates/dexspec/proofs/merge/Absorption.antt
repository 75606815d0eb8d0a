-- Any part of mergeable definitions is mergeable, and a cause against a part is a cause against the whole.
use Rattle.dexspec.proofs.Common.{◌≤◌, List, length, arith}
use Rattle.dexspec.specs.{rank, Text, text_cmp, proto_cmp, field_cmp, method_cmp, Definition, AreWithin, mentions, Caps, Cap, TypeCap, ProtoCap, FieldCap, MethodCap, ShortStringCap, WeightCap, HasShortString, Exceeds, Fits, IsGood, Cause, Conflict, Cycle, Exceeded, IsCause}
use Rattle.dexspec.proofs.lists.{length-among, AreDistinct-from_Rises, rank-among}
use Rattle.dexspec.proofs.merge.SymbolOrders.{text_total, proto_total, field_total, method_total}
use Rattle.dexspec.proofs.merge.Growth.{mentions-rising, mentions-among}
use Rattle.dexspec.proofs.merge.DepthGrowth.{is_defined-within, HasDepth-within, IsAcyclic-within}

module _ (D E : List Definition) (h : AreWithin D E) where
  pub types-within : length (mentions D).types ≤ length (mentions E).types
  types-within = length-among (mentions D).types (mentions E).types (AreDistinct-from_Rises text_cmp text_total (mentions D).types (mentions-rising D).types) (mentions-among D E h).types

  pub protos-within : length (mentions D).protos ≤ length (mentions E).protos
  protos-within = length-among (mentions D).protos (mentions E).protos (AreDistinct-from_Rises proto_cmp proto_total (mentions D).protos (mentions-rising D).protos) (mentions-among D E h).protos

  pub fields-within : length (mentions D).fields ≤ length (mentions E).fields
  fields-within = length-among (mentions D).fields (mentions E).fields (AreDistinct-from_Rises field_cmp field_total (mentions D).fields (mentions-rising D).fields) (mentions-among D E h).fields

  pub methods-within : length (mentions D).methods ≤ length (mentions E).methods
  methods-within = length-among (mentions D).methods (mentions E).methods (AreDistinct-from_Rises method_cmp method_total (mentions D).methods (mentions-rising D).methods) (mentions-among D E h).methods

  pub text_rank-within : (s : Text) → rank text_cmp s (mentions D).texts ≤ rank text_cmp s (mentions E).texts
  text_rank-within s = rank-among text_cmp text_total s (mentions D).texts (mentions E).texts (mentions-rising D).texts (mentions-among D E h).texts

  pub HasShortString-within : (s : Text) → HasShortString D s → HasShortString E s
  HasShortString-within s x = record {
    definition = x.definition;
    method = x.method;
    code = x.code;
    units = x.units;
    member = h x.definition x.member;
    declared = x.declared;
    has_code = x.has_code;
    piece = x.piece;
    short = x.short;
  }

  pub Exceeds-within : (caps : Caps) (clause : Cap) → Exceeds caps D clause → Exceeds caps E clause
  Exceeds-within caps TypeCap x = omega (arith, x, types-within)
  Exceeds-within caps ProtoCap x = omega (arith, x, protos-within)
  Exceeds-within caps FieldCap x = omega (arith, x, fields-within)
  Exceeds-within caps MethodCap x = omega (arith, x, methods-within)
  Exceeds-within caps ShortStringCap x = (x.0, HasShortString-within x.0 x.1, omega (arith, x.2, text_rank-within x.0))
  Exceeds-within caps WeightCap x = (x.0, x.1, λ d c. h d (x.2 d c), x.3)

  pub Fits-within : (caps : Caps) → Fits caps E → Fits caps D
  Fits-within caps f = record {
    types = omega (arith, f.types, types-within);
    protos = omega (arith, f.protos, protos-within);
    fields = omega (arith, f.fields, fields-within);
    methods = omega (arith, f.methods, methods-within);
    short_strings = λ s x. omega (arith, f.short_strings s (HasShortString-within s x), text_rank-within s);
    weight = λ F d w. f.weight F d (λ e c. h e (w e c));
  }

  pub IsGood-within : (caps : Caps) → IsGood caps E → IsGood caps D
  IsGood-within caps g = record {
    consistent = λ name one other c d. g.consistent name one other (h (name, one) c) (h (name, other) d);
    acyclic = IsAcyclic-within D E h g.acyclic;
    fits = Fits-within caps g.fits;
  }

  pub IsCause-within : (caps : Caps) (cause : Cause) → IsCause caps D cause → IsCause caps E cause
  IsCause-within caps (Conflict name) x = record { one = x.one; other = x.other; one_in = h (name, x.one) x.one_in; other_in = h (name, x.other) x.other_in; unequal = x.unequal }
  IsCause-within caps (Cycle name) x = record { defined = is_defined-within D E h name x.defined; deep = λ w. x.deep (HasDepth-within D E h name w) }
  IsCause-within caps (Exceeded clause) x = Exceeds-within caps clause x

-- definitions that fit exceed no cap
pub Fits-apart : (caps : Caps) (D : List Definition) (clause : Cap) → Fits caps D → Exceeds caps D clause → ⊥
Fits-apart caps D TypeCap f x = omega (arith, f.types, x)
Fits-apart caps D ProtoCap f x = omega (arith, f.protos, x)
Fits-apart caps D FieldCap f x = omega (arith, f.fields, x)
Fits-apart caps D MethodCap f x = omega (arith, f.methods, x)
Fits-apart caps D ShortStringCap f x = omega (arith, f.short_strings x.0 x.1, x.2)
Fits-apart caps D WeightCap f x = omega (arith, f.weight x.0 x.1 x.2, x.3)

-- mergeable definitions have no cause against them
pub IsGood-apart : (caps : Caps) (D : List Definition) (cause : Cause) → IsGood caps D → IsCause caps D cause → ⊥
IsGood-apart caps D (Conflict name) g x = x.unequal (g.consistent name x.one x.other x.one_in x.other_in)
IsGood-apart caps D (Cycle name) g x = x.deep (g.acyclic name x.defined)
IsGood-apart caps D (Exceeded clause) g x = Fits-apart caps D clause g.fits x
