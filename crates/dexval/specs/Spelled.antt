-- The shortest encodings of values, annotations and sets that have numbers for symbols, and their weights.
use Rattle.std.specs.Prelude.{ℕ, ◌+◌, ◌-◌, ◌*◌, ◌^◌, ◌<◌, min, List, [], ◌∷◌, ◌++◌, length, map, sum_by, if◌then◌else◌}
use Rattle.dexspec.specs.Numbers.{uleb128}
use Rattle.dexspec.specs.Values.{value_byte}
use Rattle.dexspec.specs.Spellings.{unsigned_bytes, signed_bytes, bits_bytes, offsets_bytes}
use Rattle.dexspec.specs.Placing.{offsets_from}
use Rattle.dexval.specs.Numbered.{Literal, ByteLiteral, ShortLiteral, CharLiteral, IntLiteral, LongLiteral}
use Rattle.dexval.specs.Numbered.{FloatLiteral, DoubleLiteral, NullLiteral, BooleanLiteral, Reference, StringReference}
use Rattle.dexval.specs.Numbered.{TypeReference, FieldReference, MethodReference, EnumReference, NumberedValue}
use Rattle.dexval.specs.Numbered.{NumberedValues, NumberedElements, NumberedAnnotation, NumberedSet, Plain, Named}
use Rattle.dexval.specs.Numbered.{Array, Annotated, NoValue, ThenNext, NoElement, ThenNamed}

-- ---- counts

-- the number of values
abbrev pub values_count : NumberedValues → ℕ
values_count NoValue = 0
values_count (ThenNext x xs) = values_count xs + 1

-- the number of elements
abbrev pub elements_count : NumberedElements → ℕ
elements_count NoElement = 0
elements_count (ThenNamed name x es) = elements_count es + 1

abbrev mutual
  -- each array and annotation in the value has fewer than 2 ^ 32 members
  pub IsCounted : NumberedValue → Type 0
  IsCounted (Plain literal) = Unit {0}
  IsCounted (Named reference i) = Unit {0}
  IsCounted (Array xs) = (values_count xs < 2 ^ 32) × AreCounted xs
  IsCounted (Annotated t es) = (elements_count es < 2 ^ 32) × HaveCounted es

  -- each array and annotation in these values
  pub AreCounted : NumberedValues → Type 0
  AreCounted NoValue = Unit {0}
  AreCounted (ThenNext x xs) = IsCounted x × AreCounted xs

  -- each array and annotation in these elements
  pub HaveCounted : NumberedElements → Type 0
  HaveCounted NoElement = Unit {0}
  HaveCounted (ThenNamed name x es) = IsCounted x × HaveCounted es

-- each array and annotation in the annotation
abbrev pub IsCountedAnnotation : NumberedAnnotation → Type 0
IsCountedAnnotation a = (elements_count a.elements < 2 ^ 32) × HaveCounted a.elements

-- ---- bytes

-- a count as a uleb128; a count of more than 2 ^ 32 - 1 is written as 2 ^ 32 - 1
unfoldable pub count_bytes : ℕ → List ℕ
count_bytes n = uleb128 (min (2 ^ 32 - 1) n)

-- a value that names no symbol
abbrev pub literal_bytes : Literal → List ℕ
literal_bytes (ByteLiteral z) = signed_bytes 0x00 z
literal_bytes (ShortLiteral z) = signed_bytes 0x02 z
literal_bytes (CharLiteral u) = unsigned_bytes 0x03 u
literal_bytes (IntLiteral z) = signed_bytes 0x04 z
literal_bytes (LongLiteral z) = signed_bytes 0x06 z
literal_bytes (FloatLiteral bits) = bits_bytes 0x10 4 bits
literal_bytes (DoubleLiteral bits) = bits_bytes 0x11 8 bits
literal_bytes NullLiteral = value_byte 0 0x1e ∷ []
literal_bytes (BooleanLiteral is) = value_byte (if is then 1 else 0) 0x1f ∷ []

-- the type code of a value that names a symbol
abbrev pub reference_code : Reference → ℕ
reference_code StringReference = 0x17
reference_code TypeReference = 0x18
reference_code FieldReference = 0x19
reference_code MethodReference = 0x1a
reference_code EnumReference = 0x1b

abbrev mutual
  -- an encoded_value
  pub numbered_bytes : NumberedValue → List ℕ
  numbered_bytes (Plain literal) = literal_bytes literal
  numbered_bytes (Named reference i) = unsigned_bytes (reference_code reference) i
  numbered_bytes (Array xs) = value_byte 0 0x1c ∷ (count_bytes (values_count xs) ++ numbered_values_bytes xs)
  numbered_bytes (Annotated t es) =
      value_byte 0 0x1d ∷ (uleb128 t ++ (count_bytes (elements_count es) ++ numbered_elements_bytes es))

  -- values in sequence
  pub numbered_values_bytes : NumberedValues → List ℕ
  numbered_values_bytes NoValue = []
  numbered_values_bytes (ThenNext x xs) = numbered_bytes x ++ numbered_values_bytes xs

  -- annotation_elements in sequence
  pub numbered_elements_bytes : NumberedElements → List ℕ
  numbered_elements_bytes NoElement = []
  numbered_elements_bytes (ThenNamed name x es) = uleb128 name ++ (numbered_bytes x ++ numbered_elements_bytes es)

-- an encoded_array
abbrev pub numbered_array_bytes : NumberedValues → List ℕ
numbered_array_bytes xs = count_bytes (values_count xs) ++ numbered_values_bytes xs

-- an encoded_annotation
abbrev pub encoded_annotation_bytes : ℕ → NumberedElements → List ℕ
encoded_annotation_bytes t es = uleb128 t ++ (count_bytes (elements_count es) ++ numbered_elements_bytes es)

-- an annotation_item
abbrev pub numbered_annotation_bytes : NumberedAnnotation → List ℕ
numbered_annotation_bytes a = a.visibility ∷ encoded_annotation_bytes a.type a.elements

-- the offsets of the annotations of a set that are in sequence from an offset on
abbrev pub numbered_offsets : ℕ → NumberedSet → List ℕ
numbered_offsets first s = offsets_from 1 first (map numbered_annotation_bytes s)

-- an annotation_set_item of such annotations
abbrev pub numbered_set_bytes : ℕ → NumberedSet → List ℕ
numbered_set_bytes first s = offsets_bytes (numbered_offsets first s)

-- ---- weights

abbrev mutual
  -- an encoded_value
  pub numbered_weight : NumberedValue → ℕ
  numbered_weight (Plain literal) = 9
  numbered_weight (Named reference i) = 9
  numbered_weight (Array xs) = 6 + numbered_values_weight xs
  numbered_weight (Annotated t es) = 12 + numbered_elements_weight es

  -- values
  pub numbered_values_weight : NumberedValues → ℕ
  numbered_values_weight NoValue = 0
  numbered_values_weight (ThenNext x xs) = numbered_weight x + numbered_values_weight xs

  -- annotation_elements
  pub numbered_elements_weight : NumberedElements → ℕ
  numbered_elements_weight NoElement = 0
  numbered_elements_weight (ThenNamed name x es) = 5 + numbered_weight x + numbered_elements_weight es

-- an annotation_item
abbrev pub numbered_annotation_weight : NumberedAnnotation → ℕ
numbered_annotation_weight a = 12 + numbered_elements_weight a.elements

-- a set; an empty one weighs nothing
abbrev pub numbered_set_weight : NumberedSet → ℕ
numbered_set_weight [] = 0
numbered_set_weight (x ∷ xs) = 8 + sum_by (λ a. 4 + numbered_annotation_weight a) (x ∷ xs)

-- a set for each parameter; an empty list weighs nothing
abbrev pub numbered_sets_weight : List NumberedSet → ℕ
numbered_sets_weight [] = 0
numbered_sets_weight (s ∷ ss) = 8 + 4 * length (s ∷ ss) + sum_by numbered_set_weight (s ∷ ss)

-- static values; an empty list weighs nothing
abbrev pub numbered_statics_weight : NumberedValues → ℕ
numbered_statics_weight NoValue = 0
numbered_statics_weight (ThenNext x xs) = 6 + numbered_values_weight (ThenNext x xs)
