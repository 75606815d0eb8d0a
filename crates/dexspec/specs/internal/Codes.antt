-- Codes of the model's types: injective maps into trees of numbers, by which the values of a type are stored and
-- compared.
use Rattle.std.specs.Prelude.{◌≡◌, ℕ, ◌==◌, T, List, Option}
use Rattle.std.specs.FinMap as map
use Rattle.std.proofs.Common.{refl, sym, ap, subst}
use Rattle.std.specs.Coded.{Coded, code_by, coded×, coded_ℕ, coded_ℤ, coded_bool, coded_list, coded_option}
use base.Stored.{Gv, gnil, gnum, gcons}
use Rattle.dexspec.specs.Texts.{Text}
use Rattle.dexspec.specs.Symbols.{Proto, Field, Method, Symbol, TextSymbol, TypeSymbol, ProtoSymbol, FieldSymbol}
use Rattle.dexspec.specs.Symbols.{MethodSymbol}
use Rattle.dexspec.specs.Pieces.{Piece, Instruction, Payload}
use Rattle.dexspec.specs.Debug.{Operation, AdvancePc, AdvanceLine, StartLocal, StartLocalExtended, EndLocal}
use Rattle.dexspec.specs.Debug.{RestartLocal, SetPrologueEnd, SetEpilogueBegin, SetFile, Special, Debug}
use Rattle.dexspec.specs.Code.{Catch, Handler, Try, Code}
use Rattle.dexspec.specs.Values.{Value, ByteValue, ShortValue, CharValue, IntValue, LongValue, FloatValue, DoubleValue}
use Rattle.dexspec.specs.Values.{StringValue, TypeValue, FieldValue, MethodValue, EnumValue, ArrayValue}
use Rattle.dexspec.specs.Values.{AnnotationValue, NullValue, BooleanValue, Values, NoValues, ThenValue, Elements}
use Rattle.dexspec.specs.Values.{NoElements, ThenElement}
use Rattle.dexspec.specs.Annotations.{Annotation, AnnotationSet}
use Rattle.dexspec.specs.Classes.{FieldDef, MethodDef, Body, Definition}
use Rattle.dexspec.specs.Files.{Collection}

-- ---- trees of numbers

-- the first number of a code of several parts
abbrev tag : Gv → ℕ
tag gnil = 0
tag (gnum n) = n
tag (gcons a b) = tag a

-- the first part of a code
abbrev head : Gv → Gv
head gnil = gnil
head (gnum n) = gnil
head (gcons a b) = a

-- a code without its first part
abbrev tail : Gv → Gv
tail gnil = gnil
tail (gnum n) = gnil
tail (gcons a b) = b

-- a code of several parts is not empty
abbrev HasParts : Gv → Type 0
HasParts gnil = ⊥
HasParts (gnum n) = ⊥
HasParts (gcons a b) = Unit {0}

-- ---- texts and symbols

-- a text is a list of numbers
abbrev pub text_code : Coded Text
text_code = coded_list coded_ℕ

-- a text that may be absent
abbrev pub optional_text_code : Coded (Option Text)
optional_text_code = coded_option text_code

-- a proto is the pair of its fields
abbrev pub proto_code : Coded Proto
proto_code =
    code_by (Text × List Text) (coded× text_code (coded_list text_code)) (λ p. (p.return_type, p.parameters))
    (λ t. record { return_type = t.0; parameters = t.1 }) (λ _. refl)

-- a field is its three texts
abbrev pub field_code : Coded Field
field_code =
    code_by (Text × (Text × Text)) (coded× text_code (coded× text_code text_code)) (λ f. (f.class, (f.name, f.type)))
    (λ t. record { class = t.0; name = t.1.0; type = t.1.1 }) (λ _. refl)

-- a method is its class, name and proto
abbrev pub method_code : Coded Method
method_code =
    code_by (Text × (Text × Proto)) (coded× text_code (coded× text_code proto_code)) (λ m. (m.class, (m.name, m.proto)))
    (λ t. record { class = t.0; name = t.1.0; proto = t.1.1 }) (λ _. refl)

-- a symbol is the number of its pool and its contents
abbrev symbol_tree : Symbol → Gv
symbol_tree (TextSymbol s) = gcons (gnum 0) (text_code.code s)
symbol_tree (TypeSymbol t) = gcons (gnum 1) (text_code.code t)
symbol_tree (ProtoSymbol p) = gcons (gnum 2) (proto_code.code p)
symbol_tree (FieldSymbol f) = gcons (gnum 3) (field_code.code f)
symbol_tree (MethodSymbol m) = gcons (gnum 4) (method_code.code m)

-- two symbols with equal codes are equal
pub one_symbol : (x y : Symbol) → symbol_tree x ≡ symbol_tree y → x ≡ y
one_symbol (TextSymbol s) (TextSymbol t) p = ap TextSymbol (text_code.inj s t (ap tail p))
one_symbol (TypeSymbol s) (TypeSymbol t) p = ap TypeSymbol (text_code.inj s t (ap tail p))
one_symbol (ProtoSymbol s) (ProtoSymbol t) p = ap ProtoSymbol (proto_code.inj s t (ap tail p))
one_symbol (FieldSymbol s) (FieldSymbol t) p = ap FieldSymbol (field_code.inj s t (ap tail p))
one_symbol (MethodSymbol s) (MethodSymbol t) p = ap MethodSymbol (method_code.inj s t (ap tail p))
one_symbol x y p = absurd (subst (λ g. T (tag (symbol_tree x) == tag g)) p tt)

-- a symbol of any pool
abbrev pub symbol_code : Coded Symbol
symbol_code = record { code = symbol_tree; inj = one_symbol }

-- ---- code

-- a piece is the number of its kind, its units and its symbol
abbrev piece_tree : Piece → Gv
piece_tree (Instruction us s) = gcons (gnum 0) (gcons (text_code.code us) ((coded_option symbol_code).code s))
piece_tree (Payload us) = gcons (gnum 1) (text_code.code us)

-- two pieces with equal codes are equal
pub one_piece : (x y : Piece) → piece_tree x ≡ piece_tree y → x ≡ y
one_piece (Instruction us s) (Instruction vs t) p =
    λ i. Instruction (text_code.inj us vs (ap (λ g. head (tail g)) p) i)
    ((coded_option symbol_code).inj s t (ap (λ g. tail (tail g)) p) i)
one_piece (Payload us) (Payload vs) p = ap Payload (text_code.inj us vs (ap tail p))
one_piece x y p = absurd (subst (λ g. T (tag (piece_tree x) == tag g)) p tt)

-- an instruction or a payload
abbrev pub piece_code : Coded Piece
piece_code = record { code = piece_tree; inj = one_piece }

-- an operation is the number of its kind and its operands
abbrev operation_tree : Operation → Gv
operation_tree (AdvancePc addresses) = gcons (gnum 0) (gnum addresses)
operation_tree (AdvanceLine lines) = gcons (gnum 1) (coded_ℤ.code lines)
operation_tree (StartLocal register name type) =
    gcons (gnum 2) (gcons (gnum register) (gcons (optional_text_code.code name) (optional_text_code.code type)))
operation_tree (StartLocalExtended register name type signature) =
    gcons (gnum 3)
    (gcons (gnum register)
    (gcons (optional_text_code.code name) (gcons (optional_text_code.code type) (optional_text_code.code signature))))
operation_tree (EndLocal register) = gcons (gnum 4) (gnum register)
operation_tree (RestartLocal register) = gcons (gnum 5) (gnum register)
operation_tree SetPrologueEnd = gcons (gnum 6) gnil
operation_tree SetEpilogueBegin = gcons (gnum 7) gnil
operation_tree (SetFile name) = gcons (gnum 8) (optional_text_code.code name)
operation_tree (Special opcode) = gcons (gnum 9) (gnum opcode)

-- two operations with equal codes are equal
pub one_operation : (x y : Operation) → operation_tree x ≡ operation_tree y → x ≡ y
one_operation (AdvancePc m) (AdvancePc n) p = ap AdvancePc (coded_ℕ.inj m n (ap tail p))
one_operation (AdvanceLine m) (AdvanceLine n) p = ap AdvanceLine (coded_ℤ.inj m n (ap tail p))
one_operation (StartLocal m s t) (StartLocal n u v) p =
    λ i. StartLocal (coded_ℕ.inj m n (ap (λ g. head (tail g)) p) i)
    (optional_text_code.inj s u (ap (λ g. head (tail (tail g))) p) i)
    (optional_text_code.inj t v (ap (λ g. tail (tail (tail g))) p) i)
one_operation (StartLocalExtended m s t w) (StartLocalExtended n u v x) p =
    λ i. StartLocalExtended (coded_ℕ.inj m n (ap (λ g. head (tail g)) p) i)
    (optional_text_code.inj s u (ap (λ g. head (tail (tail g))) p) i)
    (optional_text_code.inj t v (ap (λ g. head (tail (tail (tail g)))) p) i)
    (optional_text_code.inj w x (ap (λ g. tail (tail (tail (tail g)))) p) i)
one_operation (EndLocal m) (EndLocal n) p = ap EndLocal (coded_ℕ.inj m n (ap tail p))
one_operation (RestartLocal m) (RestartLocal n) p = ap RestartLocal (coded_ℕ.inj m n (ap tail p))
one_operation SetPrologueEnd SetPrologueEnd p = refl
one_operation SetEpilogueBegin SetEpilogueBegin p = refl
one_operation (SetFile s) (SetFile t) p = ap SetFile (optional_text_code.inj s t (ap tail p))
one_operation (Special m) (Special n) p = ap Special (coded_ℕ.inj m n (ap tail p))
one_operation x y p = absurd (subst (λ g. T (tag (operation_tree x) == tag g)) p tt)

-- an operation of a debug program
abbrev pub operation_code : Coded Operation
operation_code = record { code = operation_tree; inj = one_operation }

-- a debug program is its start, its names and its operations
abbrev pub debug_code : Coded Debug
debug_code =
    code_by (ℕ × (List (Option Text) × List Operation))
    (coded× coded_ℕ (coded× (coded_list optional_text_code) (coded_list operation_code)))
    (λ d. (d.line_start, (d.parameter_names, d.operations)))
    (λ t. record { line_start = t.0; parameter_names = t.1.0; operations = t.1.1 }) (λ _. refl)

-- a catch is its type and its address
abbrev pub catch_code : Coded Catch
catch_code =
    code_by (Text × ℕ) (coded× text_code coded_ℕ) (λ c. (c.type, c.address)) (λ t. record { type = t.0; address = t.1 })
    (λ _. refl)

-- a handler is its catches and the catch-all address
abbrev pub handler_code : Coded Handler
handler_code =
    code_by (List Catch × Option ℕ) (coded× (coded_list catch_code) (coded_option coded_ℕ))
    (λ h. (h.catches, h.catch_all))
    (λ t. record { catches = t.0; catch_all = t.1 }) (λ _. refl)

-- a try is its units and its handler
abbrev pub try_code : Coded Try
try_code =
    code_by (ℕ × (ℕ × Handler)) (coded× coded_ℕ (coded× coded_ℕ handler_code)) (λ x. (x.start, (x.count, x.handler)))
    (λ t. record { start = t.0; count = t.1.0; handler = t.1.1 }) (λ _. refl)

-- code is its registers, pieces, tries and debug program
abbrev pub code_code : Coded Code
code_code =
    code_by (ℕ × (ℕ × (ℕ × (List Piece × (List Try × Option Debug)))))
    (coded× coded_ℕ
    (coded× coded_ℕ
    (coded× coded_ℕ (coded× (coded_list piece_code) (coded× (coded_list try_code) (coded_option debug_code))))))
    (λ c. (c.registers, (c.ins, (c.outs, (c.pieces, (c.tries, c.debug))))))
    (λ t.
    record {
      registers = t.0;
      ins = t.1.0;
      outs = t.1.1.0;
      pieces = t.1.1.1.0;
      tries = t.1.1.1.1.0;
      debug = t.1.1.1.1.1;
    }) (λ _. refl)

-- ---- values

abbrev mutual
  -- a value is the number of its kind and its contents
  value_tree : Value → Gv
  value_tree (ByteValue z) = gcons (gnum 0) (coded_ℤ.code z)
  value_tree (ShortValue z) = gcons (gnum 1) (coded_ℤ.code z)
  value_tree (CharValue u) = gcons (gnum 2) (gnum u)
  value_tree (IntValue z) = gcons (gnum 3) (coded_ℤ.code z)
  value_tree (LongValue z) = gcons (gnum 4) (coded_ℤ.code z)
  value_tree (FloatValue bits) = gcons (gnum 5) (gnum bits)
  value_tree (DoubleValue bits) = gcons (gnum 6) (gnum bits)
  value_tree (StringValue s) = gcons (gnum 7) (text_code.code s)
  value_tree (TypeValue t) = gcons (gnum 8) (text_code.code t)
  value_tree (FieldValue f) = gcons (gnum 9) (field_code.code f)
  value_tree (MethodValue m) = gcons (gnum 10) (method_code.code m)
  value_tree (EnumValue f) = gcons (gnum 11) (field_code.code f)
  value_tree (ArrayValue vs) = gcons (gnum 12) (values_tree vs)
  value_tree (AnnotationValue t es) = gcons (gnum 13) (gcons (text_code.code t) (elements_tree es))
  value_tree NullValue = gcons (gnum 14) gnil
  value_tree (BooleanValue is) = gcons (gnum 15) (coded_bool.code is)

  -- values are a list of values
  values_tree : Values → Gv
  values_tree NoValues = gnil
  values_tree (ThenValue v vs) = gcons (value_tree v) (values_tree vs)

  -- elements are a list of names and values
  elements_tree : Elements → Gv
  elements_tree NoElements = gnil
  elements_tree (ThenElement name v es) = gcons (text_code.code name) (gcons (value_tree v) (elements_tree es))

mutual
  -- two values with equal codes are equal
  pub one_value : (x y : Value) → value_tree x ≡ value_tree y → x ≡ y
  one_value (ByteValue m) (ByteValue n) p = ap ByteValue (coded_ℤ.inj m n (ap tail p))
  one_value (ShortValue m) (ShortValue n) p = ap ShortValue (coded_ℤ.inj m n (ap tail p))
  one_value (CharValue m) (CharValue n) p = ap CharValue (coded_ℕ.inj m n (ap tail p))
  one_value (IntValue m) (IntValue n) p = ap IntValue (coded_ℤ.inj m n (ap tail p))
  one_value (LongValue m) (LongValue n) p = ap LongValue (coded_ℤ.inj m n (ap tail p))
  one_value (FloatValue m) (FloatValue n) p = ap FloatValue (coded_ℕ.inj m n (ap tail p))
  one_value (DoubleValue m) (DoubleValue n) p = ap DoubleValue (coded_ℕ.inj m n (ap tail p))
  one_value (StringValue s) (StringValue t) p = ap StringValue (text_code.inj s t (ap tail p))
  one_value (TypeValue s) (TypeValue t) p = ap TypeValue (text_code.inj s t (ap tail p))
  one_value (FieldValue s) (FieldValue t) p = ap FieldValue (field_code.inj s t (ap tail p))
  one_value (MethodValue s) (MethodValue t) p = ap MethodValue (method_code.inj s t (ap tail p))
  one_value (EnumValue s) (EnumValue t) p = ap EnumValue (field_code.inj s t (ap tail p))
  one_value (ArrayValue vs) (ArrayValue ws) p = ap ArrayValue (one_values vs ws (ap tail p))
  one_value (AnnotationValue s ds) (AnnotationValue t es) p =
      λ i. AnnotationValue (text_code.inj s t (ap (λ g. head (tail g)) p) i)
      (one_elements ds es (ap (λ g. tail (tail g)) p) i)
  one_value NullValue NullValue p = refl
  one_value (BooleanValue s) (BooleanValue t) p = ap BooleanValue (coded_bool.inj s t (ap tail p))
  one_value x y p = absurd (subst (λ g. T (tag (value_tree x) == tag g)) p tt)

  -- two lists of values with equal codes are equal
  pub one_values : (x y : Values) → values_tree x ≡ values_tree y → x ≡ y
  one_values NoValues NoValues p = refl
  one_values (ThenValue v vs) (ThenValue w ws) p =
      λ i. ThenValue (one_value v w (ap head p) i) (one_values vs ws (ap tail p) i)
  one_values NoValues (ThenValue w ws) p = absurd (subst HasParts (sym p) tt)
  one_values (ThenValue v vs) NoValues p = absurd (subst HasParts p tt)

  -- two lists of elements with equal codes are equal
  pub one_elements : (x y : Elements) → elements_tree x ≡ elements_tree y → x ≡ y
  one_elements NoElements NoElements p = refl
  one_elements (ThenElement s v ds) (ThenElement t w es) p =
      λ i. ThenElement (text_code.inj s t (ap head p) i) (one_value v w (ap (λ g. head (tail g)) p) i)
      (one_elements ds es (ap (λ g. tail (tail g)) p) i)
  one_elements NoElements (ThenElement t w es) p = absurd (subst HasParts (sym p) tt)
  one_elements (ThenElement s v ds) NoElements p = absurd (subst HasParts p tt)

-- a value of any kind
abbrev pub value_code : Coded Value
value_code = record { code = value_tree; inj = one_value }

-- the values of an array
abbrev pub values_code : Coded Values
values_code = record { code = values_tree; inj = one_values }

-- the elements of an annotation
abbrev pub elements_code : Coded Elements
elements_code = record { code = elements_tree; inj = one_elements }

-- ---- class definitions

-- an annotation is its visibility, its type and its elements
abbrev pub annotation_code : Coded Annotation
annotation_code =
    code_by (ℕ × (Text × Elements)) (coded× coded_ℕ (coded× text_code elements_code))
    (λ a. (a.visibility, (a.type, a.elements)))
    (λ t. record { visibility = t.0; type = t.1.0; elements = t.1.1 }) (λ _. refl)

-- a set is a list of annotations
abbrev pub set_code : Coded AnnotationSet
set_code = coded_list annotation_code

-- a declared field is its name, type, flags and set
abbrev pub field_def_code : Coded FieldDef
field_def_code =
    code_by (Text × (Text × (ℕ × AnnotationSet))) (coded× text_code (coded× text_code (coded× coded_ℕ set_code)))
    (λ f. (f.name, (f.type, (f.flags, f.annotations))))
    (λ t. record { name = t.0; type = t.1.0; flags = t.1.1.0; annotations = t.1.1.1 }) (λ _. refl)

-- a declared method is its name, proto, flags, code and sets
abbrev pub method_def_code : Coded MethodDef
method_def_code =
    code_by (Text × (Proto × (ℕ × (Option Code × (AnnotationSet × List AnnotationSet)))))
    (coded× text_code
    (coded× proto_code (coded× coded_ℕ (coded× (coded_option code_code) (coded× set_code (coded_list set_code))))))
    (λ m. (m.name, (m.proto, (m.flags, (m.code, (m.annotations, m.parameter_annotations))))))
    (λ t.
    record {
      name = t.0;
      proto = t.1.0;
      flags = t.1.1.0;
      code = t.1.1.1.0;
      annotations = t.1.1.1.1.0;
      parameter_annotations = t.1.1.1.1.1;
    }) (λ _. refl)

-- a class without its name is the contents of its row and its lists
abbrev pub body_code : Coded Body
body_code =
    code_by
    (ℕ
    × (Option Text
    × (List Text
    × (Option Text
    × (AnnotationSet × (List FieldDef × (List FieldDef × (List MethodDef × (List MethodDef × Values)))))))))
    (coded× coded_ℕ
    (coded× optional_text_code (coded× (coded_list text_code) (coded× optional_text_code (coded× set_code
    (coded× (coded_list field_def_code)
    (coded× (coded_list field_def_code)
    (coded× (coded_list method_def_code) (coded× (coded_list method_def_code) values_code)))))))))
    (λ c. (
      c.flags,
      (
        c.superclass,
        (
          c.interfaces,
          (
            c.source,
            (
              c.annotations,
              (c.static_fields, (c.instance_fields, (c.direct_methods, (c.virtual_methods, c.static_values)))),
            ),
          ),
        ),
      ),
    ))
    (λ t. record {
      flags = t.0;
      superclass = t.1.0;
      interfaces = t.1.1.0;
      source = t.1.1.1.0;
      annotations = t.1.1.1.1.0;
      static_fields = t.1.1.1.1.1.0;
      instance_fields = t.1.1.1.1.1.1.0;
      direct_methods = t.1.1.1.1.1.1.1.0;
      virtual_methods = t.1.1.1.1.1.1.1.1.0;
      static_values = t.1.1.1.1.1.1.1.1.1;
    }) (λ _. refl)

-- a definition is a name and a body
abbrev pub definition_code : Coded Definition
definition_code = coded× text_code body_code

-- a collection is its definitions by name
abbrev pub collection_code : Coded Collection
collection_code = map.code text_code body_code
