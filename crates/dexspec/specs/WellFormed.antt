-- Well-formed definitions: those that a file can have, whatever the indices and offsets are.
-- Source: "Dalvik Executable format", the sizes of the fields of each item.
use Rattle.std.specs.Prelude.{◌≡◌, ℕ, ◌+◌, ◌^◌, ◌<◌, ◌≤◌, IsTrue, List, length, map, All, IfSome, IfNone, FitsSigned}
use Rattle.std.specs.List.{flat_map, AllZip, Contains}
use Rattle.std.specs.Int.{w8, w16, w32, w64}
use Rattle.std.specs.Ordering.{ordering_then}
use Rattle.std.specs.declared.cmp.Ordering.{Ordering}
use Rattle.dexspec.specs.Lists.{rises}
use Rattle.dexspec.specs.Texts.{Text, AreUnits, text_cmp}
use Rattle.dexspec.specs.Names.{IsDescriptor, IsClass, IsMemberName, IsValueType}
use Rattle.dexspec.specs.Symbols.{Proto, Symbol, TextSymbol, TypeSymbol, ProtoSymbol, FieldSymbol, MethodSymbol}
use Rattle.dexspec.specs.Symbols.{IsProto, IsField, IsMethod, proto_cmp}
use Rattle.dexspec.specs.Pieces.{Cut, IsCode, Piece, DenotesPiece, units_of, cut_units}
use Rattle.dexspec.specs.Debug.{Operation, AdvancePc, AdvanceLine, StartLocal, StartLocalExtended, EndLocal}
use Rattle.dexspec.specs.Debug.{RestartLocal, Special, Debug}
use Rattle.dexspec.specs.Code.{Handler, Try, Code, IsStart, AreApart, handlers_of, handlers_weight, most_handlers}
use Rattle.dexspec.specs.Values.{Value, ByteValue, ShortValue, CharValue, IntValue, LongValue, FloatValue, DoubleValue}
use Rattle.dexspec.specs.Values.{ArrayValue, AnnotationValue, Values, NoValues, ThenValue, Elements, NoElements}
use Rattle.dexspec.specs.Values.{ThenElement, names_of, count_values, values_depth, elements_depth, most_depth}
use Rattle.dexspec.specs.Annotations.{Annotation, AnnotationSet}
use Rattle.dexspec.specs.ClassData.{ShareNone}
use Rattle.dexspec.specs.Classes.{FieldDef, MethodDef, Definition, declared_fields, declared_methods}
use Rattle.dexspec.specs.Mentions.{symbols_of, texts_in}

-- a count, an offset or a number of 32 bits
abbrev pub FitsUint : ℕ → Type 0
FitsUint n = n < 2 ^ 32

-- a number of 16 bits
abbrev pub FitsUshort : ℕ → Type 0
FitsUshort n = n < 2 ^ 16

-- all numbers are units, and the text is not too long for its count
pub record IsText (s : Text) : Type 0 where
  pub units : AreUnits s
  pub count : FitsUint (length s)

-- a row can denote the symbol
abbrev pub IsSymbol : Symbol → Type 0
IsSymbol (TextSymbol s) = IsText s
IsSymbol (TypeSymbol t) = IsDescriptor t
IsSymbol (ProtoSymbol p) = IsProto p
IsSymbol (FieldSymbol f) = IsField f
IsSymbol (MethodSymbol m) = IsMethod m

-- ---- code

-- the pieces are the cuts of their joined units, in which each symbol has index zero
pub record ArePieces (ps : List Piece) (cuts : List Cut) : Type 0 where
  pub code : IsCode (flat_map units_of ps) cuts
  pub pieces : AllZip (λ c p. DenotesPiece (λ i s. i ≡ 0) (cut_units (flat_map units_of ps) c) p) cuts ps
  pub units : AreUnits (flat_map units_of ps)
  pub count : FitsUint (length (flat_map units_of ps))

-- addresses are starts of instructions; without catches there is a catch-all address
pub record IsHandlerOf (us : List ℕ) (cuts : List Cut) (h : Handler) : Type 0 where
  pub catches : All (λ c. IsStart us cuts c.address) h.catches
  pub catch_all : IfSome h.catch_all (IsStart us cuts)
  pub some : IfNone h.catch_all (0 < length h.catches)

-- units of the code, and a handler
pub record IsTryOf (us : List ℕ) (cuts : List Cut) (t : Try) : Type 0 where
  pub some : 0 < t.count
  pub count : FitsUshort t.count
  pub within : t.start + t.count ≤ length us
  pub handler : IsHandlerOf us cuts t.handler

-- operands fit their encodings
abbrev pub IsOperation : Operation → Type 0
IsOperation (AdvancePc addresses) = FitsUint addresses
IsOperation (AdvanceLine lines) = FitsSigned w32 lines
IsOperation (StartLocal register name type) = FitsUint register
IsOperation (StartLocalExtended register name type signature) = FitsUint register
IsOperation (EndLocal register) = FitsUint register
IsOperation (RestartLocal register) = FitsUint register
IsOperation (Special opcode) = (0x0a ≤ opcode) × (opcode ≤ 0xff)
IsOperation _ = Unit {0}

-- numbers and counts fit, and there are at most as many operations as a file has bytes
pub record IsDebug (d : Debug) : Type 0 where
  pub line_start : FitsUint d.line_start
  pub names : FitsUint (length d.parameter_names)
  pub operations : All IsOperation d.operations
  pub few : length d.operations < 2 ^ 30

-- code that some code_item denotes
pub record IsCodeItem (c : Code) : Type 0 where
  pub registers : FitsUshort c.registers
  pub ins : FitsUshort c.ins
  pub outs : FitsUshort c.outs
  pub cuts : List Cut
  pub pieces : ArePieces c.pieces cuts
  pub many : FitsUshort (length c.tries)
  pub tries : All (IsTryOf (flat_map units_of c.pieces) cuts) c.tries
  pub apart : AreApart c.tries
  pub few : handlers_weight (handlers_of c.tries) ≤ most_handlers
  pub debug : IfSome c.debug IsDebug

-- ---- values and annotations

abbrev mutual
  -- a value that some encoded_value denotes
  pub IsValue : Value → Type 0
  IsValue (ByteValue z) = FitsSigned w8 z
  IsValue (ShortValue z) = FitsSigned w16 z
  IsValue (CharValue u) = u < 2 ^ 16
  IsValue (IntValue z) = FitsSigned w32 z
  IsValue (LongValue z) = FitsSigned w64 z
  IsValue (FloatValue bits) = bits < 2 ^ 32
  IsValue (DoubleValue bits) = bits < 2 ^ 64
  IsValue (ArrayValue vs) = AreValues vs × FitsUint (count_values vs)
  IsValue (AnnotationValue t es) =
      AreElements es × FitsUint (length (names_of es)) × IsTrue (rises text_cmp (names_of es))
  IsValue _ = Unit {0}

  -- each of the values is such a value
  pub AreValues : Values → Type 0
  AreValues NoValues = Unit {0}
  AreValues (ThenValue v vs) = IsValue v × AreValues vs

  -- the value of each element is such a value
  pub AreElements : Elements → Type 0
  AreElements NoElements = Unit {0}
  AreElements (ThenElement name v es) = IsValue v × AreElements es

-- an annotation that some annotation_item denotes
pub record IsAnnotation (a : Annotation) : Type 0 where
  pub visibility : a.visibility ≤ 2
  pub elements : AreElements a.elements
  pub count : FitsUint (length (names_of a.elements))
  pub rise : IsTrue (rises text_cmp (names_of a.elements))
  pub shallow : elements_depth a.elements ≤ most_depth

-- annotations by type, each type once
pub record IsSet (set : AnnotationSet) : Type 0 where
  pub annotations : All IsAnnotation set
  pub rise : IsTrue (rises text_cmp (map (λ a. a.type) set))
  pub count : FitsUint (length set)

-- ---- members and classes

-- the key of a field among those of its class
abbrev pub field_key : FieldDef → Text × Text
field_key f = (f.name, f.type)

-- by name, then by type
abbrev pub field_key_cmp : Text × Text → Text × Text → Ordering
field_key_cmp x y = ordering_then (text_cmp x.0 y.0) (text_cmp x.1 y.1)

-- the key of a method among those of its class
abbrev pub method_key : MethodDef → Text × Proto
method_key m = (m.name, m.proto)

-- by name, then by proto
abbrev pub method_key_cmp : Text × Proto → Text × Proto → Ordering
method_key_cmp x y = ordering_then (text_cmp x.0 y.0) (proto_cmp x.1 y.1)

-- a field that some class declares
pub record IsFieldDef (f : FieldDef) : Type 0 where
  pub name : IsMemberName f.name
  pub type : IsValueType f.type
  pub flags : FitsUint f.flags
  pub annotations : IsSet f.annotations

-- a method that some class declares
pub record IsMethodDef (m : MethodDef) : Type 0 where
  pub name : IsMemberName m.name
  pub proto : IsProto m.proto
  pub flags : FitsUint m.flags
  pub code : IfSome m.code IsCodeItem
  pub annotations : IsSet m.annotations
  pub parameters : All IsSet m.parameter_annotations
  pub parameters_count : FitsUint (length m.parameter_annotations)

-- a definition that some file can have
pub record IsWellFormed (d : Definition) : Type 0 where
  pub name : IsClass d.0
  pub superclass : IfSome d.1.superclass IsClass
  pub interfaces : All IsClass d.1.interfaces
  pub interfaces_count : FitsUint (length d.1.interfaces)
  pub flags : FitsUint d.1.flags
  pub annotations : IsSet d.1.annotations
  pub fields : All IsFieldDef (declared_fields d.1)
  pub methods : All IsMethodDef (declared_methods d.1)
  pub static_fields_count : FitsUint (length d.1.static_fields)
  pub instance_fields_count : FitsUint (length d.1.instance_fields)
  pub direct_methods_count : FitsUint (length d.1.direct_methods)
  pub virtual_methods_count : FitsUint (length d.1.virtual_methods)
  pub static_fields : IsTrue (rises field_key_cmp (map field_key d.1.static_fields))
  pub instance_fields : IsTrue (rises field_key_cmp (map field_key d.1.instance_fields))
  pub fields_apart : ShareNone (map field_key d.1.static_fields) (map field_key d.1.instance_fields)
  pub direct_methods : IsTrue (rises method_key_cmp (map method_key d.1.direct_methods))
  pub virtual_methods : IsTrue (rises method_key_cmp (map method_key d.1.virtual_methods))
  pub methods_apart : ShareNone (map method_key d.1.direct_methods) (map method_key d.1.virtual_methods)
  pub static_values : AreValues d.1.static_values
  pub shallow : values_depth d.1.static_values ≤ most_depth
  pub few_values : count_values d.1.static_values ≤ length d.1.static_fields
  pub symbols : All IsSymbol (symbols_of d)
  pub texts : All IsText (flat_map texts_in (symbols_of d))

-- each of them is a definition that some file can have
abbrev pub AreWellFormed : List Definition → Type 0
AreWellFormed D = (d : Definition) → Contains D d → IsWellFormed d
