-- The symbols that occur in class definitions, and the symbols that these mention. This project's
-- rule: the five pools of a canonical file have exactly these.
use Rattle.std.specs.Prelude.{List, [], ◌∷◌, ◌++◌, map, Option, option_to_list}
use Rattle.std.specs.List.{flat_map}
use Rattle.dexspec.specs.Lists.{in_order}
use Rattle.dexspec.specs.Texts.{Text, text_cmp}
use Rattle.dexspec.specs.Names.{shorty}
use Rattle.dexspec.specs.Symbols.{Proto, Field, Method, Symbol, TextSymbol, TypeSymbol, ProtoSymbol, FieldSymbol}
use Rattle.dexspec.specs.Symbols.{MethodSymbol, proto_cmp, field_cmp, method_cmp}
use Rattle.dexspec.specs.Pieces.{Piece, Instruction, Payload}
use Rattle.dexspec.specs.Debug.{Operation, StartLocal, StartLocalExtended, SetFile, Debug}
use Rattle.dexspec.specs.Code.{Handler, Code, handlers_of}
use Rattle.dexspec.specs.Values.{Value, StringValue, TypeValue, FieldValue, MethodValue, EnumValue, ArrayValue}
use Rattle.dexspec.specs.Values.{AnnotationValue, Values, NoValues, ThenValue, Elements, NoElements, ThenElement}
use Rattle.dexspec.specs.Annotations.{Annotation, AnnotationSet}
use Rattle.dexspec.specs.Classes.{FieldDef, MethodDef, Definition, declared_fields, declared_methods}

-- ---- the symbols that occur

-- a text as a symbol, if there is one
abbrev pub optional_text : Option Text → List Symbol
optional_text s = map TextSymbol (option_to_list s)

-- a type as a symbol, if there is one
abbrev pub optional_type : Option Text → List Symbol
optional_type t = map TypeSymbol (option_to_list t)

-- the symbol of an instruction's index
abbrev pub piece_symbols : Piece → List Symbol
piece_symbols (Instruction us s) = option_to_list s
piece_symbols (Payload us) = []

-- the texts and types of a debug operation
abbrev pub operation_symbols : Operation → List Symbol
operation_symbols (StartLocal register name type) = optional_text name ++ optional_type type
operation_symbols (StartLocalExtended register name type signature) =
    optional_text name ++ (optional_type type ++ optional_text signature)
operation_symbols (SetFile name) = optional_text name
operation_symbols _ = []

-- the symbols of parameter names and operations
abbrev pub debug_symbols : Debug → List Symbol
debug_symbols d = flat_map optional_text d.parameter_names ++ flat_map operation_symbols d.operations

-- the types that are caught
abbrev pub handler_symbols : Handler → List Symbol
handler_symbols h = map (λ c. TypeSymbol c.type) h.catches

-- the symbols of pieces, of the handlers that tries name, and of the debug program
abbrev pub code_symbols : Code → List Symbol
code_symbols c = flat_map piece_symbols c.pieces
    ++ (flat_map handler_symbols (handlers_of c.tries) ++ flat_map debug_symbols (option_to_list c.debug))

abbrev mutual
  -- the symbols that a value names
  pub value_symbols : Value → List Symbol
  value_symbols (StringValue s) = TextSymbol s ∷ []
  value_symbols (TypeValue t) = TypeSymbol t ∷ []
  value_symbols (FieldValue f) = FieldSymbol f ∷ []
  value_symbols (MethodValue m) = MethodSymbol m ∷ []
  value_symbols (EnumValue f) = FieldSymbol f ∷ []
  value_symbols (ArrayValue vs) = values_symbols vs
  value_symbols (AnnotationValue t es) = TypeSymbol t ∷ elements_symbols es
  value_symbols _ = []

  -- the symbols that values name
  pub values_symbols : Values → List Symbol
  values_symbols NoValues = []
  values_symbols (ThenValue v vs) = value_symbols v ++ values_symbols vs

  -- the names of elements, and the symbols that their values name
  pub elements_symbols : Elements → List Symbol
  elements_symbols NoElements = []
  elements_symbols (ThenElement name v es) = TextSymbol name ∷ (value_symbols v ++ elements_symbols es)

-- an annotation's type, and the symbols that its elements name
abbrev pub annotation_symbols : Annotation → List Symbol
annotation_symbols a = TypeSymbol a.type ∷ elements_symbols a.elements

-- the symbols of its annotations
abbrev pub set_symbols : AnnotationSet → List Symbol
set_symbols set = flat_map annotation_symbols set

-- the field of a declared field of a class
abbrev pub field_of : Text → FieldDef → Field
field_of class f = record { class = class; name = f.name; type = f.type }

-- the method of a declared method of a class
abbrev pub method_of : Text → MethodDef → Method
method_of class m = record { class = class; name = m.name; proto = m.proto }

-- a declared field, and the symbols of its set
abbrev pub field_symbols : Text → FieldDef → List Symbol
field_symbols class f = FieldSymbol (field_of class f) ∷ set_symbols f.annotations

-- a declared method, and the symbols of its code and sets
abbrev pub method_symbols : Text → MethodDef → List Symbol
method_symbols class m = MethodSymbol (method_of class m) ∷ (flat_map code_symbols (option_to_list m.code)
    ++ (set_symbols m.annotations ++ flat_map set_symbols m.parameter_annotations))

-- the symbols that occur in a definition
unfoldable pub symbols_of : Definition → List Symbol
symbols_of (name, c) = TypeSymbol name ∷ (optional_type c.superclass ++ (map TypeSymbol c.interfaces
    ++ (optional_text c.source ++ (set_symbols c.annotations ++ (flat_map (field_symbols name) (declared_fields c)
    ++ (flat_map (method_symbols name) (declared_methods c) ++ values_symbols c.static_values))))))

-- ---- the symbols that a symbol mentions, with itself

-- the method that a symbol is
abbrev pub methods_in : Symbol → List Method
methods_in (MethodSymbol m) = m ∷ []
methods_in _ = []

-- the field that a symbol is
abbrev pub fields_in : Symbol → List Field
fields_in (FieldSymbol f) = f ∷ []
fields_in _ = []

-- the proto that a symbol is or names
abbrev pub protos_in : Symbol → List Proto
protos_in (ProtoSymbol p) = p ∷ []
protos_in (MethodSymbol m) = m.proto ∷ []
protos_in _ = []

-- the types of a proto
abbrev pub proto_types : Proto → List Text
proto_types p = p.return_type ∷ p.parameters

-- the types that a symbol is or names
abbrev pub types_in : Symbol → List Text
types_in (TypeSymbol t) = t ∷ []
types_in (ProtoSymbol p) = proto_types p
types_in (FieldSymbol f) = f.class ∷ f.type ∷ []
types_in (MethodSymbol m) = m.class ∷ proto_types m.proto
types_in (TextSymbol s) = []

-- the texts of a proto: its shorty and its types
abbrev pub proto_texts : Proto → List Text
proto_texts p = shorty p.return_type p.parameters ∷ proto_types p

-- all texts that a symbol mentions
abbrev pub texts_in : Symbol → List Text
texts_in (TextSymbol s) = s ∷ []
texts_in (TypeSymbol t) = t ∷ []
texts_in (ProtoSymbol p) = proto_texts p
texts_in (FieldSymbol f) = f.class ∷ f.name ∷ f.type ∷ []
texts_in (MethodSymbol m) = m.class ∷ m.name ∷ proto_texts m.proto

-- five sets of symbols, each in its order
pub record Mentions : Type 0 where
  pub texts : List Text
  pub types : List Text
  pub protos : List Proto
  pub fields : List Field
  pub methods : List Method

-- all symbols that the symbols mention
abbrev pub closed : List Symbol → Mentions
closed ss = record {
  texts = in_order text_cmp (flat_map texts_in ss);
  types = in_order text_cmp (flat_map types_in ss);
  protos = in_order proto_cmp (flat_map protos_in ss);
  fields = in_order field_cmp (flat_map fields_in ss);
  methods = in_order method_cmp (flat_map methods_in ss);
}

-- all symbols that the definitions mention
unfoldable pub mentions : List Definition → Mentions
mentions D = closed (flat_map symbols_of D)
