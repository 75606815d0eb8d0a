-- Encoded values, arrays and annotations. Source: "Dalvik Executable format", "encoded_value encoding", "Value
-- formats", "encoded_array format", "encoded_annotation format". This project's rules: every width up to the type's own
-- is accepted, and arrays and annotations nest at most 32 deep.
use Rattle.std.specs.Prelude.{◌≡◌, ℕ, ℤ, ◌+◌, ◌-◌, ◌*◌, ◌^◌, ◌<◌, ◌≤◌, max, Bool, if◌then◌else◌, IsTrue, List, [], ◌∷◌}
use Rattle.std.specs.Prelude.{length}
use Rattle.dexspec.specs.Lists.{rises}
use Rattle.dexspec.specs.Bytes.{number_of, signed_in, BytesAt}
use Rattle.dexspec.specs.Numbers.{Uleb128At}
use Rattle.dexspec.specs.Texts.{Text, text_cmp}
use Rattle.dexspec.specs.Symbols.{Field, Method}
use Rattle.dexspec.specs.Header.{data_off}
use Rattle.dexspec.specs.Rows.{StringRow, TypeRow, FieldRow, MethodRow}

-- A value is a tree. A char is a number; floats are their bit patterns; an enum is a field. The elements of an
-- annotation are in order of name. The values of an array and the elements of an annotation are lists of their own, so
-- that what is defined by cases of values recurs into them.
mutual
  pub data Value : Type 0 where
    ByteValue ShortValue IntValue LongValue : (number : ℤ) → Value
    CharValue : (unit : ℕ) → Value
    FloatValue DoubleValue : (bits : ℕ) → Value
    StringValue : (text : Text) → Value
    TypeValue : (descriptor : Text) → Value
    FieldValue EnumValue : (field : Field) → Value
    MethodValue : (method : Method) → Value
    ArrayValue : (values : Values) → Value
    AnnotationValue : (type : Text) → (elements : Elements) → Value
    NullValue : Value
    BooleanValue : (is : Bool) → Value

  pub data Values : Type 0 where
    NoValues : Values
    ThenValue : (first : Value) → (rest : Values) → Values

  pub data Elements : Type 0 where
    NoElements : Elements
    ThenElement : (name : Text) → (value : Value) → (rest : Elements) → Elements

-- the number of values
abbrev pub count_values : Values → ℕ
count_values NoValues = 0
count_values (ThenValue v vs) = count_values vs + 1

-- the names of the elements
abbrev pub names_of : Elements → List Text
names_of NoElements = []
names_of (ThenElement name v es) = name ∷ names_of es

-- ---- the depth of values

abbrev mutual
  -- a scalar has depth 0; an array or annotation has a depth one more than its deepest member
  pub value_depth : Value → ℕ
  value_depth (ArrayValue vs) = values_depth vs + 1
  value_depth (AnnotationValue t es) = elements_depth es + 1
  value_depth _ = 0

  -- the depth of the deepest value
  pub values_depth : Values → ℕ
  values_depth NoValues = 0
  values_depth (ThenValue v vs) = max (value_depth v) (values_depth vs)

  -- the depth of the deepest value of an element
  pub elements_depth : Elements → ℕ
  elements_depth NoElements = 0
  elements_depth (ThenElement name v es) = max (value_depth v) (elements_depth es)

-- the maximum depth of values (this project's rule)
abbrev pub most_depth : ℕ
most_depth = 32

-- ---- in a file

-- the first byte of a value: a type code in the low five bits, and an argument above it
abbrev pub value_byte : ℕ → ℕ → ℕ
value_byte arg code = 32 * arg + code

-- a value of this type code, whose argument counts these bytes, 1 to `width`, less one, is at offset o
pub record SizedAt (code width : ℕ) (b : List ℕ) (o : ℕ) (bytes : List ℕ) (n : ℕ) : Type 0 where
  pub some : 0 < length bytes
  pub few : length bytes ≤ width
  pub encodes : BytesAt b o (value_byte (length bytes - 1) code ∷ bytes)
  pub size : n ≡ 1 + length bytes

-- a signed number, extended by the sign of its highest byte
abbrev pub SignedAt : ℕ → ℕ → List ℕ → ℕ → ℤ → ℕ → Type 0
SignedAt code width b o z n = (x : List ℕ) × SizedAt code width b o x n × (z ≡ signed_in (length x) (number_of x))

-- an unsigned number
abbrev pub UnsignedAt : ℕ → ℕ → List ℕ → ℕ → ℕ → ℕ → Type 0
UnsignedAt code width b o v n = (x : List ℕ) × SizedAt code width b o x n × (v ≡ number_of x)

-- a bit pattern, with zeros at its low end
abbrev pub BitsAt : ℕ → ℕ → List ℕ → ℕ → ℕ → ℕ → Type 0
BitsAt code width b o v n = (x : List ℕ) × SizedAt code width b o x n × (v ≡ 256 ^ (width - length x) * number_of x)

-- the index of a row that has the value
abbrev pub IndexAt : {X : Type 0} → ℕ → (List ℕ → ℕ → X → Type 0) → List ℕ → ℕ → X → ℕ → Type 0
IndexAt code Row b o x n = (i : ℕ) × UnsignedAt code 4 b o i n × Row b i x

-- An encoded_array of `count` values is at offset o. `ValuesFrom` relates the offset and the size of the values: it is
-- an argument since `ValueAt`, which says it of values, is itself defined by this.
abbrev pub ArrayAround : (ℕ → ℕ → Type 0) → ℕ → List ℕ → ℕ → ℕ → Type 0
ArrayAround ValuesFrom count b o n = (i j : ℕ) × Uleb128At b o count i × ValuesFrom (o + i) j × (n ≡ i + j)

-- an encoded_annotation of this type is at offset o; the names of its elements rise strictly, and `ElementsFrom`
-- relates the offset and the size of the elements
abbrev pub AnnotationAround : (ℕ → ℕ → Type 0) → Text → List Text → List ℕ → ℕ → ℕ → Type 0
AnnotationAround ElementsFrom t names b o n = (i j k index : ℕ) × Uleb128At b o index i × TypeRow b index t
    × Uleb128At b (o + i) (length names) j × ElementsFrom (o + i + j) k × IsTrue (rises text_cmp names)
    × (n ≡ i + j + k)

abbrev mutual
  -- an encoded_value of the type code of its kind is at offset o
  pub ValueAt : List ℕ → ℕ → Value → ℕ → Type 0
  ValueAt b o (ByteValue z) n = SignedAt 0x00 1 b o z n
  ValueAt b o (ShortValue z) n = SignedAt 0x02 2 b o z n
  ValueAt b o (CharValue u) n = UnsignedAt 0x03 2 b o u n
  ValueAt b o (IntValue z) n = SignedAt 0x04 4 b o z n
  ValueAt b o (LongValue z) n = SignedAt 0x06 8 b o z n
  ValueAt b o (FloatValue bits) n = BitsAt 0x10 4 b o bits n
  ValueAt b o (DoubleValue bits) n = BitsAt 0x11 8 b o bits n
  ValueAt b o (StringValue s) n = IndexAt 0x17 StringRow b o s n
  ValueAt b o (TypeValue t) n = IndexAt 0x18 TypeRow b o t n
  ValueAt b o (FieldValue f) n = IndexAt 0x19 FieldRow b o f n
  ValueAt b o (MethodValue m) n = IndexAt 0x1a MethodRow b o m n
  ValueAt b o (EnumValue f) n = IndexAt 0x1b FieldRow b o f n
  ValueAt b o (ArrayValue vs) n = BytesAt b o (value_byte 0 0x1c ∷ [])
      × (m : ℕ) × ArrayAround (λ p k. ValuesAt b p vs k) (count_values vs) b (o + 1) m × (n ≡ 1 + m)
  ValueAt b o (AnnotationValue t es) n = BytesAt b o (value_byte 0 0x1d ∷ [])
      × (m : ℕ) × AnnotationAround (λ p k. ElementsAt b p es k) t (names_of es) b (o + 1) m × (n ≡ 1 + m)
  ValueAt b o NullValue n = BytesAt b o (value_byte 0 0x1e ∷ []) × (n ≡ 1)
  ValueAt b o (BooleanValue is) n = BytesAt b o (value_byte (if is then 1 else 0) 0x1f ∷ []) × (n ≡ 1)

  -- the values are in sequence at offset o
  pub ValuesAt : List ℕ → ℕ → Values → ℕ → Type 0
  ValuesAt b o NoValues n = n ≡ 0
  ValuesAt b o (ThenValue v vs) n = (i j : ℕ) × ValueAt b o v i × ValuesAt b (o + i) vs j × (n ≡ i + j)

  -- the elements, each an index of its name and its value, are in sequence at offset o
  pub ElementsAt : List ℕ → ℕ → Elements → ℕ → Type 0
  ElementsAt b o NoElements n = n ≡ 0
  ElementsAt b o (ThenElement name v es) n = (i j k index : ℕ) × Uleb128At b o index i × StringRow b index name
      × ValueAt b (o + i) v j × ElementsAt b (o + i + j) es k × (n ≡ i + j + k)

-- an encoded_array is at offset o
abbrev pub EncodedArrayAt : List ℕ → ℕ → Values → ℕ → Type 0
EncodedArrayAt b o vs n = ArrayAround (λ p k. ValuesAt b p vs k) (count_values vs) b o n

-- an encoded_annotation is at offset o
abbrev pub EncodedAnnotationAt : Text → List ℕ → ℕ → Elements → ℕ → Type 0
EncodedAnnotationAt t b o es n = AnnotationAround (λ p k. ElementsAt b p es k) t (names_of es) b o n

-- ---- in the data

-- an encoded_array_item whose values nest at most `most_depth` deep is at offset o of the data
pub record EncodedArrayItemAt (b : List ℕ) (o : ℕ) (vs : Values) (n : ℕ) : Type 0 where
  pub in_data : data_off b ≤ o
  pub array : EncodedArrayAt b o vs n
  pub shallow : values_depth vs ≤ most_depth
