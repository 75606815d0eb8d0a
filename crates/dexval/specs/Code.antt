-- The values, annotations, sets and directories of the code, as contracts see them.
use Rattle.std.specs.Prelude.{ℕ, List, map}
use Rattle.std.specs.Global.{Vec}
use Rattle.dexval.specs.declared.value.Value.{Value}
use Rattle.dexval.specs.declared.value.Value.TheOpen.{Value-F, Element-F, EncodedAnnotation-F, Byte, Short, Char, Int}
use Rattle.dexval.specs.declared.value.Value.TheOpen.{Long, Float, Double, String, Typ, Field, Method, Enum, Array}
use Rattle.dexval.specs.declared.value.Value.TheOpen.{Annotation, Null, Boolean}
use Rattle.dexval.specs.declared.value.Value.TheFolds.{fold-Value, fold-Element}
use Rattle.dexval.specs.declared.value.Element.{Element}
use Rattle.dexval.specs.declared.value.EncodedAnnotation.{EncodedAnnotation, out-EncodedAnnotation}
use Rattle.dexval.specs.declared.annotation.Visibility.{Visibility}
use Rattle.dexval.specs.declared.annotation.Visibility.TheVariants.{Build, Runtime, System}
use Rattle.dexval.specs.declared.annotation.Annotation.{Annotation as CodeAnnotation}
use Rattle.dexval.specs.declared.set.AnnotationSet.{AnnotationSet}
use Rattle.dexval.specs.declared.directory.Directory.{Directory}
use Rattle.dexval.specs.Numbered.{NumberedValue, NumberedValues, NumberedElements, NumberedAnnotation, NumberedSet}
use Rattle.dexval.specs.Numbered.{NumberedDirectory, Plain, Named, Annotated, ByteLiteral, ShortLiteral, CharLiteral}
use Rattle.dexval.specs.Numbered.{IntLiteral, LongLiteral, FloatLiteral, DoubleLiteral, NullLiteral, BooleanLiteral}
use Rattle.dexval.specs.Numbered.{StringReference, TypeReference, FieldReference, MethodReference, EnumReference}
use Rattle.dexval.specs.Numbered.{values_of_list, elements_of_list}
use Rattle.dexval.specs.Numbered as numbered

-- one value, whose inner values are models
abbrev pub value_step : Value-F NumberedValue (ℕ × NumberedValue) NumberedValue → NumberedValue
value_step (Byte z) = Plain (ByteLiteral z)
value_step (Short z) = Plain (ShortLiteral z)
value_step (Char u) = Plain (CharLiteral u)
value_step (Int z) = Plain (IntLiteral z)
value_step (Long z) = Plain (LongLiteral z)
value_step (Float bits) = Plain (FloatLiteral bits)
value_step (Double bits) = Plain (DoubleLiteral bits)
value_step (String i) = Named StringReference i
value_step (Typ i) = Named TypeReference i
value_step (Field i) = Named FieldReference i
value_step (Method i) = Named MethodReference i
value_step (Enum i) = Named EnumReference i
value_step (Array values) = numbered.Array (values_of_list values.value.items)
value_step (Annotation annotation) = annotation.value
value_step Null = Plain NullLiteral
value_step (Boolean is) = Plain (BooleanLiteral is)

-- one element
abbrev pub element_step : Element-F NumberedValue (ℕ × NumberedValue) NumberedValue → ℕ × NumberedValue
element_step e = (e.name, e.value)

-- one encoded_annotation
abbrev pub annotation_step : EncodedAnnotation-F NumberedValue (ℕ × NumberedValue) NumberedValue → NumberedValue
annotation_step a = Annotated a.typ (elements_of_list a.elements.items)

-- the value
abbrev pub value_of : Value → NumberedValue
value_of = fold-Value NumberedValue (ℕ × NumberedValue) NumberedValue value_step element_step annotation_step

-- the element: its name and its value
abbrev pub element_of : Element → ℕ × NumberedValue
element_of = fold-Element NumberedValue (ℕ × NumberedValue) NumberedValue value_step element_step annotation_step

-- the values
abbrev pub values_of : List Value → NumberedValues
values_of values = values_of_list (map value_of values)

-- the elements
abbrev pub elements_of : List Element → NumberedElements
elements_of elements = elements_of_list (map element_of elements)

-- the number of the type of an encoded_annotation
abbrev pub encoded_type : EncodedAnnotation → ℕ
encoded_type a = (out-EncodedAnnotation a).typ

-- its elements
abbrev pub encoded_elements : EncodedAnnotation → NumberedElements
encoded_elements a = elements_of (out-EncodedAnnotation a).elements.items

-- the encoded_annotation as a value
abbrev pub encoded_of : EncodedAnnotation → NumberedValue
encoded_of a = Annotated (encoded_type a) (encoded_elements a)

-- the number of a visibility
abbrev pub visibility_of : Visibility → ℕ
visibility_of Build = 0
visibility_of Runtime = 1
visibility_of System = 2

-- the annotation
abbrev pub annotation_of : CodeAnnotation → NumberedAnnotation
annotation_of a =
    record {
      visibility = visibility_of a.visibility;
      type = encoded_type a.annotation;
      elements = encoded_elements a.annotation;
    }

-- the set of these annotations
abbrev pub set_from : List CodeAnnotation → NumberedSet
set_from annotations = map annotation_of annotations

-- the set
abbrev pub set_of : AnnotationSet → NumberedSet
set_of s = map annotation_of s.annotations.items

-- members with their sets
abbrev pub member_sets : List (ℕ × AnnotationSet) → List (ℕ × NumberedSet)
member_sets members = map (λ e. (e.0, set_of e.1)) members

-- members with their lists of sets
abbrev pub member_lists : List (ℕ × Vec AnnotationSet) → List (ℕ × List NumberedSet)
member_lists members = map (λ e. (e.0, map set_of e.1.items)) members

-- the directory
abbrev pub directory_of : Directory → NumberedDirectory
directory_of d = record {
  own = set_of d.own;
  fields = map (λ e. (e.0, set_of e.1)) d.fields.items;
  methods = map (λ e. (e.0, set_of e.1)) d.methods.items;
  parameters = map (λ e. (e.0, map set_of e.1.items)) d.parameters.items;
}
