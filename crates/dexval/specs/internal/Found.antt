-- What the readers and the checks of values find at an offset: an item, or that there is none.
use Rattle.std.specs.Prelude.{◌≡◌, ℕ, ◌+◌, ◌%◌, List, Option, MatchOption, length, slice_index}
use Rattle.std.specs.Global.{Vec}
use Rattle.std.specs.Borrow.{Bor}
use Rattle.dexspec.specs.Bytes.{uint_at}
use Rattle.dexspec.specs.Numbers.{Uleb128At}
use Rattle.dexspec.specs.Values.{Value as ValueMeant, Values as ValuesMeant, SizedAt, EncodedArrayItemAt}
use Rattle.dexspec.specs.Mentions.{Mentions}
use Rattle.dexval.specs.declared.annotation.Annotation.{Annotation as CodeAnnotation}
use Rattle.dexval.specs.Reading.{EncodedValueAt}
use Rattle.dexval.specs.declared.value_checking.Measure.{Measure}
use Rattle.dexval.specs.declared.set_checking.SetShape.{SetShape}
use Rattle.dexval.specs.declared.value.Element.{Element}
use Rattle.dexval.specs.declared.value.EncodedAnnotation.{EncodedAnnotation}
use Rattle.dexval.specs.declared.value.Value.{Value}
use Rattle.dexval.specs.declared.value_checking.StaticsShape.{StaticsShape}
use Rattle.dexval.specs.declared.value_checking.ValueShape.{ValueShape}
use Rattle.dexval.specs.declared.value_reading.Tally.{Tally}
use Rattle.dexval.specs.Checking.{HasValue, HasArray, HasElement, HasElements, HasAnnotation}
use Rattle.dexval.specs.Code.{value_of, values_of, element_of, elements_of, encoded_type, encoded_elements}
use Rattle.dexval.specs.Code.{annotation_of}
use Rattle.dexval.specs.Items.{IsItemAt, NoSetAt, HasOffsets}
use Rattle.dexval.specs.Nesting.{NoArrayAt, AreReadAt, AreValuesReadAt, NoElementAt, IsElementReadAt, NoElementsAt}
use Rattle.dexval.specs.Nesting.{AreElementsReadAt, NoAnnotationAt, IsAnnotationReadAt}
use Rattle.dexval.specs.Results.{HasValueShape, HasStaticsShape, HasSetShape}
use Rattle.dexval.specs.internal.Scalars.{Spells, IsScalar, NoValueAt, IsReadAt}

-- ---- numbers

-- no uleb128 is at the offset
abbrev pub NoNumberAt : List ℕ → ℕ → Type 0
NoNumberAt b o = (v n : ℕ) → Uleb128At b o v n → ⊥

-- a uleb128 and its size, or none is at the offset
abbrev pub FindsUleb128 : List ℕ → ℕ → Option (ℕ × ℕ) → Type 0
FindsUleb128 b o found = MatchOption found (NoNumberAt b o) (λ read. Uleb128At b o read.0 read.1)

-- the bytes of a number of at most `width` bytes, which are after the first byte of a value, or there is no such number
abbrev pub FindsNumber : List ℕ → ℕ → ℕ → Option (Bor (List ℕ)) → Type 0
FindsNumber b o width found =
    MatchOption found ((xs : List ℕ) (n : ℕ) → SizedAt (slice_index b o % 32) width b o xs n → ⊥)
    (λ number. SizedAt (slice_index b o % 32) width b o number.now (1 + length number.now))

-- the bytes after a first byte of a type code encode the value
abbrev pub SpellsValue : Mentions → ℕ → List ℕ → Value → Type 0
SpellsValue m code bytes value = Spells m code bytes (value_of value)

-- ---- values that are read

-- a value that holds no other value, and its size, or none is at the offset
abbrev pub FindsScalar : List ℕ → ℕ → Mentions → Option (Value × ℕ) → Type 0
FindsScalar b o m found =
    MatchOption found ((depth : ℕ) → NoValueAt b o depth) (λ read. IsReadAt b o m 0 (value_of read.0) read.1)

-- a value that holds no other, and whose type code this is if it names a symbol
abbrev pub IsScalarOf : ℕ → Value → Type 0
IsScalarOf code value = IsScalar code (value_of value)

-- a value that nests at most `depth` deep, and its size
abbrev pub IsValueRead : List ℕ → ℕ → Mentions → ℕ → Value × Tally → Type 0
IsValueRead b o m depth read = IsReadAt b o m depth (value_of read.0) read.1.size

-- the values of an encoded_array, and its size
abbrev pub IsArrayRead : List ℕ → ℕ → Mentions → ℕ → Vec Value × Tally → Type 0
IsArrayRead b o m depth read = AreReadAt b o m depth (values_of read.0.items) read.1.size

-- `count` values, and their size
abbrev pub AreValuesRead : List ℕ → ℕ → Mentions → ℕ → ℕ → Vec Value × Tally → Type 0
AreValuesRead b o m depth count read = AreValuesReadAt b o m depth count (values_of read.0.items) read.1.size

-- an element whose name has at least the number `least`, and its size
abbrev pub IsElementRead : List ℕ → ℕ → Mentions → ℕ → ℕ → Element × Tally → Type 0
IsElementRead b o m depth least read = IsElementReadAt b o m depth least (element_of read.0) read.1.size

-- `count` elements whose names rise strictly, and their size
abbrev pub AreElementsRead : List ℕ → ℕ → Mentions → ℕ → ℕ → Vec Element × Tally → Type 0
AreElementsRead b o m depth count read = AreElementsReadAt b o m depth count (elements_of read.0.items) read.1.size

-- an encoded_annotation, and its size
abbrev pub IsAnnotationRead : List ℕ → ℕ → Mentions → ℕ → EncodedAnnotation × Tally → Type 0
IsAnnotationRead b o m depth read =
    IsAnnotationReadAt b o m depth (encoded_type read.0) (encoded_elements read.0) read.1.size

-- ---- values that are checked

-- the measure of a value that nests at most `depth` deep, or none is at the offset
abbrev pub MeasuresValue : List ℕ → ℕ → Mentions → ℕ → Option Measure → Type 0
MeasuresValue b o m depth found =
    MatchOption found (NoValueAt b o depth) (λ value. HasValue b o m depth value.size value.weight)

-- the number of the values of an encoded_array, and its measure
abbrev pub MeasuresArray : List ℕ → ℕ → Mentions → ℕ → Option (ℕ × Measure) → Type 0
MeasuresArray b o m depth found =
    MatchOption found (NoArrayAt b o depth) (λ array. HasArray b o m depth array.0 array.1.size array.1.weight)

-- the number of the name of an element, which is at least `least`, and its measure
abbrev pub MeasuresElement : List ℕ → ℕ → Mentions → ℕ → ℕ → Option (ℕ × Measure) → Type 0
MeasuresElement b o m depth least found =
    MatchOption found (NoElementAt b o depth least)
    (λ element. HasElement b o m depth least element.0 element.1.size element.1.weight)

-- the measure of `count` elements whose names rise strictly
abbrev pub MeasuresElements : List ℕ → ℕ → Mentions → ℕ → ℕ → Option Measure → Type 0
MeasuresElements b o m depth count found =
    MatchOption found (NoElementsAt b o depth count)
    (λ elements. HasElements b o m depth count elements.size elements.weight)

-- the number of the type of an encoded_annotation, and its measure
abbrev pub MeasuresAnnotation : List ℕ → ℕ → Mentions → ℕ → Option (ℕ × Measure) → Type 0
MeasuresAnnotation b o m depth found =
    MatchOption found (NoAnnotationAt b o depth)
    (λ annotation. HasAnnotation b o m depth annotation.0 annotation.1.size annotation.1.weight)

-- ---- items of a file

-- the number of offsets of an annotation_set_item or an annotation_set_ref_list that is inside the data
abbrev pub IsOffsetCount : List ℕ → ℕ → ℕ → Type 0
IsOffsetCount b off count = HasOffsets b off × (count ≡ uint_at b off)

-- the annotation of the annotation_item at the offset
abbrev pub IsReadItem : List ℕ → ℕ → Mentions → CodeAnnotation → Type 0
IsReadItem b off m annotation = IsItemAt b off m (annotation_of annotation)

-- the shape of an annotation_set_item, or none is at the offset
abbrev pub MeasuresSet : List ℕ → ℕ → Mentions → Option SetShape → Type 0
MeasuresSet b off m found = MatchOption found (NoSetAt b off) (HasSetShape b off m)

-- the shape of an encoded_value, or none is at the offset
abbrev pub MeasuresEncodedValue : List ℕ → ℕ → Mentions → Option ValueShape → Type 0
MeasuresEncodedValue b off m found =
    MatchOption found ((v : ValueMeant) (n : ℕ) → EncodedValueAt b off v n → ⊥) (HasValueShape b off m)

-- the shape of an encoded_array_item, or none is at the offset
abbrev pub MeasuresStatics : List ℕ → ℕ → Mentions → Option StaticsShape → Type 0
MeasuresStatics b off m found =
    MatchOption found ((vs : ValuesMeant) (n : ℕ) → EncodedArrayItemAt b off vs n → ⊥) (HasStaticsShape b off m)
