-- What has few bytes has few members.
use Rattle.dexlayout.proofs.Common.{ℕ, ◌+◌, ◌^◌, ◌<◌, ◌≤◌, ◌++◌, length, arith, length-append, Mentions, type_index, text_index, value_bytes, values_bytes, elements_bytes, encoded_array_bytes, annotation_bytes, NumberedValue, NumberedValues, NumberedElements, NumberedAnnotation, Plain, Named, Array, Annotated, NoValue, ThenNext, NoElement, ThenNamed, value_in, values_in, elements_in, annotation_in, text_at, type_at, ByteLiteral, StringReference}
use Rattle.dexspec.specs.Numbers.{uleb128}
use Rattle.dexspec.specs.Values.{count_values, names_of}
use Rattle.dexval.specs.Spelled.{values_count, elements_count, IsCounted, AreCounted, HaveCounted, IsCountedAnnotation}

-- a value has a byte
some_byte : (m : Mentions) (x : NumberedValue) → 1 ≤ length (value_bytes m (value_in m x))
some_byte m (Plain (ByteLiteral z)) = omega arith
some_byte m (Named StringReference i) = omega arith
some_byte m _ = omega arith

-- values are no more than their bytes
values_few : (m : Mentions) (xs : NumberedValues) → values_count xs ≤ length (values_bytes m (values_in m xs))
values_few m NoValue = omega arith
values_few m (ThenNext x xs) = omega (arith, length-append (value_bytes m (value_in m x)) (values_bytes m (values_in m xs)), some_byte m x, values_few m xs)

-- the bytes of an element and of those after it
element_bytes : (m : Mentions) (name : ℕ) (x : NumberedValue) (es : NumberedElements) → length (value_bytes m (value_in m x)) + length (elements_bytes m (elements_in m es)) ≤ length (elements_bytes m (elements_in m (ThenNamed name x es)))
element_bytes m name x es = omega (arith, length-append (uleb128 (text_index m (text_at m name))) (value_bytes m (value_in m x) ++ elements_bytes m (elements_in m es)), length-append (value_bytes m (value_in m x)) (elements_bytes m (elements_in m es)))

-- nor are elements
elements_few : (m : Mentions) (es : NumberedElements) → elements_count es ≤ length (elements_bytes m (elements_in m es))
elements_few m NoElement = omega arith
elements_few m (ThenNamed name x es) = omega (arith, element_bytes m name x es, some_byte m x, elements_few m es)

-- the bytes of an array, and of an annotation
array_bytes : (m : Mentions) (xs : NumberedValues) → length (values_bytes m (values_in m xs)) ≤ length (encoded_array_bytes m (values_in m xs))
array_bytes m xs = omega (arith, length-append (uleb128 (count_values (values_in m xs))) (values_bytes m (values_in m xs)))

annotated_bytes : (m : Mentions) (t : ℕ) (es : NumberedElements) → length (elements_bytes m (elements_in m es)) ≤ length (uleb128 (type_index m (type_at m t)) ++ (uleb128 (length (names_of (elements_in m es))) ++ elements_bytes m (elements_in m es)))
annotated_bytes m t es =
    let ns = uleb128 (length (names_of (elements_in m es))) in
    omega (arith, length-append (uleb128 (type_index m (type_at m t))) (ns ++ elements_bytes m (elements_in m es)), length-append ns (elements_bytes m (elements_in m es)))

mutual
  counted : (m : Mentions) (x : NumberedValue) → length (value_bytes m (value_in m x)) < 2 ^ 32 → IsCounted x
  counted m (Array xs) lt = let few : length (values_bytes m (values_in m xs)) < 2 ^ 32 = omega (arith, lt, array_bytes m xs) in (omega (arith, few, values_few m xs), values_counted m xs few)
  counted m (Annotated t es) lt = let few : length (elements_bytes m (elements_in m es)) < 2 ^ 32 = omega (arith, lt, annotated_bytes m t es) in (omega (arith, few, elements_few m es), elements_counted m es few)
  counted m _ lt = tt

  values_counted : (m : Mentions) (xs : NumberedValues) → length (values_bytes m (values_in m xs)) < 2 ^ 32 → AreCounted xs
  values_counted m NoValue lt = tt
  values_counted m (ThenNext x xs) lt =
      let both = length-append (value_bytes m (value_in m x)) (values_bytes m (values_in m xs)) in
      (counted m x (omega (arith, lt, both)), values_counted m xs (omega (arith, lt, both)))

  elements_counted : (m : Mentions) (es : NumberedElements) → length (elements_bytes m (elements_in m es)) < 2 ^ 32 → HaveCounted es
  elements_counted m NoElement lt = tt
  elements_counted m (ThenNamed name x es) lt = (counted m x (omega (arith, lt, element_bytes m name x es)), elements_counted m es (omega (arith, lt, element_bytes m name x es)))

-- static values
pub array_counted : (m : Mentions) (xs : NumberedValues) → length (encoded_array_bytes m (values_in m xs)) < 2 ^ 32 → (values_count xs < 2 ^ 32) × AreCounted xs
array_counted m xs lt = let few : length (values_bytes m (values_in m xs)) < 2 ^ 32 = omega (arith, lt, array_bytes m xs) in (omega (arith, few, values_few m xs), values_counted m xs few)

-- an annotation
pub annotation_counted : (m : Mentions) (a : NumberedAnnotation) → length (annotation_bytes m (annotation_in m a)) < 2 ^ 32 → IsCountedAnnotation a
annotation_counted m a lt = let few : length (elements_bytes m (elements_in m a.elements)) < 2 ^ 32 = omega (arith, lt, annotated_bytes m a.type a.elements) in (omega (arith, few, elements_few m a.elements), elements_counted m a.elements few)
