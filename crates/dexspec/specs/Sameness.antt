-- Whether two type lists, two debug programs or two annotation sets are equal, part by part.
use Rattle.std.specs.Prelude.{◌==◌, Bool, true, false, not, ◌&&◌, if◌then◌else◌, List, Option}
use Rattle.std.specs.Ordering.{int_eq}
use Rattle.std.specs.Option.{option_eq}
use Rattle.std.specs.Cmp.Lexicographic.{pointwise}
use Rattle.dexspec.specs.Texts.{Text, same_text}
use Rattle.dexspec.specs.Symbols.{Proto, Field, Method}
use Rattle.dexspec.specs.Debug.{Operation, AdvancePc, AdvanceLine, StartLocal, StartLocalExtended, EndLocal}
use Rattle.dexspec.specs.Debug.{RestartLocal, SetPrologueEnd, SetEpilogueBegin, SetFile, Special, Debug}
use Rattle.dexspec.specs.Values.{Value, ByteValue, ShortValue, CharValue, IntValue, LongValue, FloatValue, DoubleValue}
use Rattle.dexspec.specs.Values.{StringValue, TypeValue, FieldValue, MethodValue, EnumValue, ArrayValue}
use Rattle.dexspec.specs.Values.{AnnotationValue, NullValue, BooleanValue, Values, NoValues, ThenValue, Elements}
use Rattle.dexspec.specs.Values.{NoElements, ThenElement}
use Rattle.dexspec.specs.Annotations.{Annotation, AnnotationSet}

-- ---- symbols

-- type lists, type by type
abbrev pub same_types : List Text → List Text → Bool
same_types = pointwise same_text

-- protos
abbrev pub same_proto : Proto → Proto → Bool
same_proto p q = same_text p.return_type q.return_type && same_types p.parameters q.parameters

-- fields
abbrev pub same_field : Field → Field → Bool
same_field f g = same_text f.class g.class && (same_text f.name g.name && same_text f.type g.type)

-- methods
abbrev pub same_method : Method → Method → Bool
same_method x y = same_text x.class y.class && (same_text x.name y.name && same_proto x.proto y.proto)

-- ---- debug programs

-- names or types that may be absent
abbrev pub same_optional : Option Text → Option Text → Bool
same_optional = option_eq same_text

-- operations
abbrev pub same_operation : Operation → Operation → Bool
same_operation (AdvancePc m) (AdvancePc n) = m == n
same_operation (AdvanceLine y) (AdvanceLine z) = int_eq y z
same_operation (StartLocal m s t) (StartLocal n u v) = m == n && (same_optional s u && same_optional t v)
same_operation (StartLocalExtended m s t r) (StartLocalExtended n u v w) =
    m == n && (same_optional s u && (same_optional t v && same_optional r w))
same_operation (EndLocal m) (EndLocal n) = m == n
same_operation (RestartLocal m) (RestartLocal n) = m == n
same_operation SetPrologueEnd SetPrologueEnd = true
same_operation SetEpilogueBegin SetEpilogueBegin = true
same_operation (SetFile s) (SetFile u) = same_optional s u
same_operation (Special m) (Special n) = m == n
same_operation _ _ = false

-- line start, names and operations
abbrev pub same_debug : Debug → Debug → Bool
same_debug d e = d.line_start == e.line_start && (pointwise same_optional d.parameter_names e.parameter_names
    && pointwise same_operation d.operations e.operations)

-- ---- annotation sets

abbrev mutual
  -- values of one kind with equal contents
  pub same_value : Value → Value → Bool
  same_value (ByteValue y) (ByteValue z) = int_eq y z
  same_value (ShortValue y) (ShortValue z) = int_eq y z
  same_value (CharValue m) (CharValue n) = m == n
  same_value (IntValue y) (IntValue z) = int_eq y z
  same_value (LongValue y) (LongValue z) = int_eq y z
  same_value (FloatValue m) (FloatValue n) = m == n
  same_value (DoubleValue m) (DoubleValue n) = m == n
  same_value (StringValue s) (StringValue t) = same_text s t
  same_value (TypeValue s) (TypeValue t) = same_text s t
  same_value (FieldValue f) (FieldValue g) = same_field f g
  same_value (MethodValue x) (MethodValue y) = same_method x y
  same_value (EnumValue f) (EnumValue g) = same_field f g
  same_value (ArrayValue vs) (ArrayValue ws) = same_values vs ws
  same_value (AnnotationValue s ds) (AnnotationValue t es) = same_text s t && same_elements ds es
  same_value NullValue NullValue = true
  same_value (BooleanValue b) (BooleanValue c) = if b then c else not c
  same_value _ _ = false

  -- value by value
  pub same_values : Values → Values → Bool
  same_values NoValues NoValues = true
  same_values (ThenValue v vs) (ThenValue w ws) = same_value v w && same_values vs ws
  same_values _ _ = false

  -- names and values
  pub same_elements : Elements → Elements → Bool
  same_elements NoElements NoElements = true
  same_elements (ThenElement s v ds) (ThenElement t w es) = same_text s t && (same_value v w && same_elements ds es)
  same_elements _ _ = false

-- annotations: visibility, type and elements
abbrev pub same_annotation : Annotation → Annotation → Bool
same_annotation a b = a.visibility == b.visibility && (same_text a.type b.type && same_elements a.elements b.elements)

-- sets, annotation by annotation
abbrev pub same_set : AnnotationSet → AnnotationSet → Bool
same_set = pointwise same_annotation
