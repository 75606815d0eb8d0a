-- Rows can denote the symbols that well-formed definitions mention.
use Rattle.dexspec.proofs.Common.{List, [], ◌∷◌, subst, inl, inr, Contains, Mentions, All-contains}
use Rattle.dexspec.specs.{Text, IsDescriptor, IsValueType, IsReferenceType, IsClass, PrimitiveType, ClassType, ArrayType, Symbol, TextSymbol, TypeSymbol, ProtoSymbol, FieldSymbol, MethodSymbol, Proto, Field, Method, IsProto, IsField, IsMethod, Definition, mentions, symbols_of, texts_in, types_in, protos_in, fields_in, methods_in, proto_types, IsText, IsSymbol, AreWellFormed}
use Rattle.dexspec.proofs.lists.Members.{Contains-nil, Contains-first, Contains-later, Contains-cons_cases, Contains-flat_map}
use Rattle.dexspec.proofs.merge.{Occurs, texts-source, types-source, protos-source, fields-source, methods-source, type-text, proto-shorty, proto-types, field-class, field-name, field-type, method-class, method-name, method-proto, one_member, mentions-rising}
use Rattle.dexspec.proofs.layout.PoolsAreAt.{ArePools}

-- a value type is a descriptor
pub value_descriptor : (t : Text) → IsValueType t → IsDescriptor t
value_descriptor t (inl p) = (PrimitiveType, p)
value_descriptor t (inr (inl c)) = (ClassType, c)
value_descriptor t (inr (inr a)) = (ArrayType, a)

-- a class is a descriptor
pub class_descriptor : (t : Text) → IsClass t → IsDescriptor t
class_descriptor t c = (ClassType, c)

-- a type that may have methods is a descriptor
pub reference_descriptor : (t : Text) → IsReferenceType t → IsDescriptor t
reference_descriptor t (inl c) = (ClassType, c)
reference_descriptor t (inr a) = (ArrayType, a)

-- the types of a proto
proto_descriptors : (p : Proto) → IsProto p → (t : Text) → Contains (proto_types p) t → IsDescriptor t
proto_descriptors p h t c = elim (Contains-cons_cases p.return_type t p.parameters c) [
  | inl e ↦ subst IsDescriptor e h.return_type
  | inr l ↦ value_descriptor t (All-contains IsValueType p.parameters t h.parameters l)
]

-- the types of a symbol
symbol_types : (y : Symbol) → IsSymbol y → (t : Text) → Contains (types_in y) t → IsDescriptor t
symbol_types (TextSymbol s) h t c = absurd (Contains-nil t c)
symbol_types (TypeSymbol s) h t c = subst IsDescriptor (one_member s t c) h
symbol_types (ProtoSymbol p) h t c = proto_descriptors p h t c
symbol_types (FieldSymbol f) h t c = elim (Contains-cons_cases f.class t (f.type ∷ []) c) [
  | inl e ↦ subst IsDescriptor e (class_descriptor f.class h.class)
  | inr l ↦ subst IsDescriptor (one_member f.type t l) (value_descriptor f.type h.type)
]
symbol_types (MethodSymbol m) h t c = elim (Contains-cons_cases m.class t (proto_types m.proto) c) [
  | inl e ↦ subst IsDescriptor e (reference_descriptor m.class h.class)
  | inr l ↦ proto_descriptors m.proto h.proto t l
]

-- its proto
symbol_protos : (y : Symbol) → IsSymbol y → (p : Proto) → Contains (protos_in y) p → IsProto p
symbol_protos (ProtoSymbol q) h p c = subst IsProto (one_member q p c) h
symbol_protos (MethodSymbol m) h p c = subst IsProto (one_member m.proto p c) h.proto
symbol_protos _ h p c = absurd (Contains-nil p c)

-- its field
symbol_fields : (y : Symbol) → IsSymbol y → (f : Field) → Contains (fields_in y) f → IsField f
symbol_fields (FieldSymbol g) h f c = subst IsField (one_member g f c) h
symbol_fields _ h f c = absurd (Contains-nil f c)

-- its method
symbol_methods : (y : Symbol) → IsSymbol y → (m : Method) → Contains (methods_in y) m → IsMethod m
symbol_methods (MethodSymbol n) h m c = subst IsMethod (one_member n m c) h
symbol_methods _ h m c = absurd (Contains-nil m c)

-- rows can denote the symbols
pub record AreFormed (m : Mentions) : Type 0 where
  pub texts : (s : Text) → Contains m.texts s → IsText s
  pub types : (t : Text) → Contains m.types t → IsDescriptor t
  pub protos : (p : Proto) → Contains m.protos p → IsProto p
  pub fields : (f : Field) → Contains m.fields f → IsField f
  pub methods : (x : Method) → Contains m.methods x → IsMethod x

-- the symbol of a part that occurs
occurring : {X : Type 0} (parts : Symbol → List X) (D : List Definition) (x : X) → AreWellFormed D → (w : Occurs parts D x) → IsSymbol w.symbol
occurring parts D x h w = All-contains IsSymbol (symbols_of w.definition) w.symbol (h w.definition w.member).symbols w.occurs

-- the symbols that well-formed definitions mention are well formed
pub mentions-formed : (D : List Definition) → AreWellFormed D → AreFormed (mentions D)
mentions-formed D h = record {
  texts = λ s c. let w = texts-source D s c in
      All-contains IsText _ s (h w.definition w.member).texts (Contains-flat_map texts_in (symbols_of w.definition) w.symbol s w.occurs w.part);
  types = λ t c. let w = types-source D t c in symbol_types w.symbol (occurring types_in D t h w) t w.part;
  protos = λ p c. let w = protos-source D p c in symbol_protos w.symbol (occurring protos_in D p h w) p w.part;
  fields = λ f c. let w = fields-source D f c in symbol_fields w.symbol (occurring fields_in D f h w) f w.part;
  methods = λ m c. let w = methods-source D m c in symbol_methods w.symbol (occurring methods_in D m h w) m w.part;
}

-- they are pools
pub mentions-pools : (D : List Definition) → AreWellFormed D → ArePools (mentions D)
mentions-pools D h =
    let rise = mentions-rising D in
    let are = mentions-formed D h in
    record {
      texts_rise = rise.texts;
      types_rise = rise.types;
      protos_rise = rise.protos;
      fields_rise = rise.fields;
      methods_rise = rise.methods;
      units = λ s c. (are.texts s c).units;
      type_text = type-text D;
      descriptor = are.types;
      proto_shorty = proto-shorty D;
      proto_return = λ p c. proto-types D p p.return_type c (Contains-first p.return_type p.parameters);
      proto_parameter = λ p t c l. proto-types D p t c (Contains-later p.return_type t p.parameters l);
      proto_values = λ p c. (are.protos p c).parameters;
      field_class = field-class D;
      field_type = field-type D;
      field_name = field-name D;
      field_formed = are.fields;
      method_class = method-class D;
      method_proto = method-proto D;
      method_name = method-name D;
      method_formed = are.methods;
    }
