-- The members of the five lists of mentions, and that these lists contain the parts of their members.
use Rattle.dexspec.proofs.Common.{◌≡◌, List, [], ◌∷◌, refl, sym, ap, subst, arith, inl, inr, Ordering, Contains, flat_map, IsTotalOrder}
use Rattle.std.specs.FinMap.{IsAntisymmetric}
use Rattle.dexspec.specs.{in_order, Text, text_cmp, shorty, Symbol, TextSymbol, TypeSymbol, ProtoSymbol, FieldSymbol, MethodSymbol, Proto, Field, Method, proto_cmp, field_cmp, method_cmp, Definition, mentions, symbols_of, texts_in, types_in, protos_in, fields_in, methods_in, proto_types}
use Rattle.dexspec.proofs.lists.{AreAmong, Contains-nil, Contains-first, Contains-later, Contains-cons_cases, Contains-flat_map, Contains-flat_map_source, in_order-has, in_order-only}
use Rattle.dexspec.proofs.merge.SymbolOrders.{text_total, text_exact, proto_total, proto_exact, field_total, field_exact, method_total, method_exact}

-- a symbol that occurs in one of the definitions has this among its parts
pub record Occurs {X : Type 0} (parts : Symbol → List X) (D : List Definition) (x : X) : Type 0 where
  pub definition : Definition
  pub symbol : Symbol
  pub member : Contains D definition
  pub occurs : Contains (symbols_of definition) symbol
  pub part : Contains (parts symbol) x

module _ {K : Type 0} (R : K → K → Ordering) (o : IsTotalOrder R) (exact : IsAntisymmetric R) (parts : Symbol → List K) (D : List Definition) (x : K) where
  listed : Occurs parts D x → Contains (in_order R (flat_map parts (flat_map symbols_of D))) x
  listed w =
      let ss = flat_map symbols_of D in
      in_order-has R o exact (flat_map parts ss) x (Contains-flat_map parts ss w.symbol x (Contains-flat_map symbols_of D w.definition w.symbol w.member w.occurs) w.part)

  source : Contains (in_order R (flat_map parts (flat_map symbols_of D))) x → Occurs parts D x
  source c =
      let ss = flat_map symbols_of D in
      let s = Contains-flat_map_source parts ss x (in_order-only R o exact (flat_map parts ss) x c) in
      let d = Contains-flat_map_source symbols_of D s.0 s.1 in
      record { definition = d.0; symbol = s.0; member = d.1; occurs = d.2; part = s.2 }

module _ (D : List Definition) where
  pub texts-listed : (x : Text) → Occurs texts_in D x → Contains (mentions D).texts x
  unfolding mentions
  texts-listed x w = listed text_cmp text_total text_exact texts_in D x w

  pub texts-source : (x : Text) → Contains (mentions D).texts x → Occurs texts_in D x
  unfolding mentions
  texts-source x c = source text_cmp text_total text_exact texts_in D x c

  pub types-listed : (x : Text) → Occurs types_in D x → Contains (mentions D).types x
  unfolding mentions
  types-listed x w = listed text_cmp text_total text_exact types_in D x w

  pub types-source : (x : Text) → Contains (mentions D).types x → Occurs types_in D x
  unfolding mentions
  types-source x c = source text_cmp text_total text_exact types_in D x c

  pub protos-listed : (x : Proto) → Occurs protos_in D x → Contains (mentions D).protos x
  unfolding mentions
  protos-listed x w = listed proto_cmp proto_total proto_exact protos_in D x w

  pub protos-source : (x : Proto) → Contains (mentions D).protos x → Occurs protos_in D x
  unfolding mentions
  protos-source x c = source proto_cmp proto_total proto_exact protos_in D x c

  pub fields-listed : (x : Field) → Occurs fields_in D x → Contains (mentions D).fields x
  unfolding mentions
  fields-listed x w = listed field_cmp field_total field_exact fields_in D x w

  pub fields-source : (x : Field) → Contains (mentions D).fields x → Occurs fields_in D x
  unfolding mentions
  fields-source x c = source field_cmp field_total field_exact fields_in D x c

  pub methods-listed : (x : Method) → Occurs methods_in D x → Contains (mentions D).methods x
  unfolding mentions
  methods-listed x w = listed method_cmp method_total method_exact methods_in D x w

  pub methods-source : (x : Method) → Contains (mentions D).methods x → Occurs methods_in D x
  unfolding mentions
  methods-source x c = source method_cmp method_total method_exact methods_in D x c

-- ---- the parts of members

-- the one_member member of a list of one
pub one_member : {X : Type 0} (y x : X) → Contains (y ∷ []) x → y ≡ x
one_member y x c = elim (Contains-cons_cases y x [] c) [ inl e ↦ e | inr l ↦ absurd (Contains-nil x l) ]

types_in-texts_in : (y : Symbol) → AreAmong (types_in y) (texts_in y)
types_in-texts_in (TextSymbol s) t c = absurd (Contains-nil t c)
types_in-texts_in (TypeSymbol s) t c = c
types_in-texts_in (ProtoSymbol p) t c = Contains-later (shorty p.return_type p.parameters) t (proto_types p) c
types_in-texts_in (FieldSymbol f) t c = elim (Contains-cons_cases f.class t (f.type ∷ []) c) [
  | inl e ↦ (0, omega arith, e)
  | inr l ↦ (2, omega arith, one_member f.type t l)
]
types_in-texts_in (MethodSymbol m) t c = elim (Contains-cons_cases m.class t (proto_types m.proto) c) [
  | inl e ↦ (0, omega arith, e)
  | inr l ↦ Contains-later m.class t (m.name ∷ (shorty m.proto.return_type m.proto.parameters ∷ proto_types m.proto)) (Contains-later m.name t (shorty m.proto.return_type m.proto.parameters ∷ proto_types m.proto) (Contains-later (shorty m.proto.return_type m.proto.parameters) t (proto_types m.proto) l))
]

protos_in-shorty : (y : Symbol) (p : Proto) → Contains (protos_in y) p → Contains (texts_in y) (shorty p.return_type p.parameters)
protos_in-shorty (ProtoSymbol q) p c = (0, omega arith, ap (λ (r : Proto). shorty r.return_type r.parameters) (one_member q p c))
protos_in-shorty (MethodSymbol m) p c = (2, omega arith, ap (λ (r : Proto). shorty r.return_type r.parameters) (one_member m.proto p c))
protos_in-shorty _ p c = absurd (Contains-nil p c)

protos_in-types_in : (y : Symbol) (p : Proto) → Contains (protos_in y) p → AreAmong (proto_types p) (types_in y)
protos_in-types_in (ProtoSymbol q) p c t d = subst (λ (r : Proto). Contains (proto_types r) t) (sym (one_member q p c)) d
protos_in-types_in (MethodSymbol m) p c t d = Contains-later m.class t (proto_types m.proto) (subst (λ (r : Proto). Contains (proto_types r) t) (sym (one_member m.proto p c)) d)
protos_in-types_in _ p c t d = absurd (Contains-nil p c)

fields_in-is : (y : Symbol) (f : Field) → Contains (fields_in y) f → FieldSymbol f ≡ y
fields_in-is (FieldSymbol g) f c = ap FieldSymbol (sym (one_member g f c))
fields_in-is _ f c = absurd (Contains-nil f c)

methods_in-is : (y : Symbol) (m : Method) → Contains (methods_in y) m → MethodSymbol m ≡ y
methods_in-is (MethodSymbol n) m c = ap MethodSymbol (sym (one_member n m c))
methods_in-is _ m c = absurd (Contains-nil m c)

-- another part of the symbol that has this part
also : {X Y : Type 0} {parts : Symbol → List X} (others : Symbol → List Y) (D : List Definition) (x : X) (y : Y) (w : Occurs parts D x) → Contains (others w.symbol) y → Occurs others D y
also others D x y w c = record { definition = w.definition; symbol = w.symbol; member = w.member; occurs = w.occurs; part = c }

module _ (D : List Definition) where
  pub type-text : (t : Text) → Contains (mentions D).types t → Contains (mentions D).texts t
  type-text t c = let w = types-source D t c in texts-listed D t (also texts_in D t t w (types_in-texts_in w.symbol t w.part))

  pub proto-shorty : (p : Proto) → Contains (mentions D).protos p → Contains (mentions D).texts (shorty p.return_type p.parameters)
  proto-shorty p c = let w = protos-source D p c in let s = shorty p.return_type p.parameters in texts-listed D s (also texts_in D p s w (protos_in-shorty w.symbol p w.part))

  pub proto-types : (p : Proto) (t : Text) → Contains (mentions D).protos p → Contains (proto_types p) t → Contains (mentions D).types t
  proto-types p t c d = let w = protos-source D p c in types-listed D t (also types_in D p t w (protos_in-types_in w.symbol p w.part t d))

  pub field-class : (f : Field) → Contains (mentions D).fields f → Contains (mentions D).types f.class
  field-class f c =
      let w = fields-source D f c in
      types-listed D f.class (also types_in D f f.class w (subst (λ y. Contains (types_in y) f.class) (fields_in-is w.symbol f w.part) (Contains-first f.class (f.type ∷ []))))

  pub field-name : (f : Field) → Contains (mentions D).fields f → Contains (mentions D).texts f.name
  field-name f c =
      let w = fields-source D f c in
      texts-listed D f.name (also texts_in D f f.name w (subst (λ y. Contains (texts_in y) f.name) (fields_in-is w.symbol f w.part) (1, omega arith, refl)))

  pub field-type : (f : Field) → Contains (mentions D).fields f → Contains (mentions D).types f.type
  field-type f c =
      let w = fields-source D f c in
      types-listed D f.type (also types_in D f f.type w (subst (λ y. Contains (types_in y) f.type) (fields_in-is w.symbol f w.part) (1, omega arith, refl)))

  pub method-class : (m : Method) → Contains (mentions D).methods m → Contains (mentions D).types m.class
  method-class m c =
      let w = methods-source D m c in
      types-listed D m.class (also types_in D m m.class w (subst (λ y. Contains (types_in y) m.class) (methods_in-is w.symbol m w.part) (Contains-first m.class (proto_types m.proto))))

  pub method-name : (m : Method) → Contains (mentions D).methods m → Contains (mentions D).texts m.name
  method-name m c =
      let w = methods-source D m c in
      texts-listed D m.name (also texts_in D m m.name w (subst (λ y. Contains (texts_in y) m.name) (methods_in-is w.symbol m w.part) (1, omega arith, refl)))

  pub method-proto : (m : Method) → Contains (mentions D).methods m → Contains (mentions D).protos m.proto
  method-proto m c =
      let w = methods-source D m c in
      protos-listed D m.proto (also protos_in D m m.proto w (subst (λ y. Contains (protos_in y) m.proto) (methods_in-is w.symbol m w.part) (Contains-first m.proto [])))
