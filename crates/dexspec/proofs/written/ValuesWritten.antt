-- Values and annotations are at the offset of their canonical bytes, if each symbol is in the row of its index.
use Rattle.dexspec.proofs.Common.{◌≡◌, ℕ, ◌+◌, ◌-◌, ◌*◌, ◌/◌, ◌^◌, ◌<◌, ◌≤◌, List, [], ◌++◌, length, refl, subst, arith, ℤ, pos, negsuc, true, false, FitsSigned, IsTrue, w8, w16, w32, ints, length-append, Values, Mentions}
use Rattle.dexspec.specs.{rises, BytesAt, magnitude, uleb128, Text, text_cmp, TextSymbol, TypeSymbol, FieldSymbol, MethodSymbol, data_off, StringRow, TypeRow, FieldRow, MethodRow, Value, ByteValue, ShortValue, CharValue, IntValue, LongValue, FloatValue, DoubleValue, StringValue, TypeValue, FieldValue, MethodValue, EnumValue, ArrayValue, AnnotationValue, NullValue, BooleanValue, NoValues, ThenValue, Elements, NoElements, ThenElement, count_values, names_of, value_byte, SignedAt, UnsignedAt, BitsAt, IndexAt, ArrayAround, AnnotationAround, ValueAt, ValuesAt, ElementsAt, EncodedArrayAt, Annotation, AnnotationAt, value_symbols, values_symbols, elements_symbols, annotation_symbols, text_index, type_index, field_index, method_index, unsigned_width, signed_width, bits_width, complement, unsigned_bytes, signed_bytes, bits_bytes, value_bytes, values_bytes, elements_bytes, encoded_array_bytes, annotation_bytes, IsValue, AreValues, AreElements, IsAnnotation}
use Rattle.dexspec.proofs.numbers.{length-bytes_of, fits_64, unsigned_at, signed_at, bits_at}
use Rattle.dexspec.proofs.written.NumbersWritten.{prefix_is_at, suffix_is_at, head_is_at, tail_is_at, uleb128_written, AreInRows, first_in_row, rest_in_rows, prefix_in_rows, back_in_rows}

-- ---- signed numbers fit their widths

room_8 : (z : ℤ) → FitsSigned w8 z → 2 * magnitude z < 256 ^ 1
room_8 (pos n) fits = omega (arith, ints)
room_8 (negsuc n) fits = omega (arith, ints)

room_16 : (z : ℤ) → FitsSigned w16 z → 2 * magnitude z < 256 ^ 2
room_16 (pos n) fits = omega (arith, ints)
room_16 (negsuc n) fits = omega (arith, ints)

room_32 : (z : ℤ) → FitsSigned w32 z → 2 * magnitude z < 256 ^ 4
room_32 (pos n) fits = omega (arith, ints)
room_32 (negsuc n) fits = omega (arith, ints)

-- ---- scalars

-- a signed number, in the number of bytes that were written
signed_written : (code width : ℕ) (b : List ℕ) (o : ℕ) (z : ℤ) → 1 ≤ width → width ≤ 8 → 2 * magnitude z < 256 ^ width → BytesAt b o (signed_bytes code z) → SignedAt code width b o z (length (signed_bytes code z))
signed_written code width b o z some few lt h =
    let len : 1 + signed_width z ≡ length (signed_bytes code z) = omega (arith, length-bytes_of (signed_width z) (complement (signed_width z) z)) in
    subst (λ n. SignedAt code width b o z n) len (signed_at code width b o z some few lt h)

-- an unsigned number
unsigned_written : (code width : ℕ) (b : List ℕ) (o v : ℕ) → 1 ≤ width → width ≤ 8 → v < 256 ^ width → BytesAt b o (unsigned_bytes code v) → UnsignedAt code width b o v (length (unsigned_bytes code v))
unsigned_written code width b o v some few lt h =
    let len : 1 + unsigned_width v ≡ length (unsigned_bytes code v) = omega (arith, length-bytes_of (unsigned_width v) v) in
    subst (λ n. UnsignedAt code width b o v n) len (unsigned_at code width b o v some few lt h)

-- a bit pattern
bits_written : (code width : ℕ) (b : List ℕ) (o v : ℕ) → 1 ≤ width → width ≤ 8 → v < 256 ^ width → BytesAt b o (bits_bytes code width v) → BitsAt code width b o v (length (bits_bytes code width v))
bits_written code width b o v some few lt h =
    let len : 1 + bits_width width v ≡ length (bits_bytes code width v) = omega (arith, length-bytes_of (bits_width width v) (v / 256 ^ (width - bits_width width v))) in
    subst (λ n. BitsAt code width b o v n) len (bits_at code width b o v some few lt h)

-- an index of a row
index_written : {X : Type 0} (Row : List ℕ → ℕ → X → Type 0) (code : ℕ) (b : List ℕ) (o i : ℕ) (x : X) → Row b i x × (i + 1 < 2 ^ 32) → BytesAt b o (unsigned_bytes code i) → IndexAt code Row b o x (length (unsigned_bytes code i))
index_written Row code b o i x row h = (i, unsigned_written code 4 b o i (omega arith) (omega arith) (omega (arith, row.1)) h, row.0)

-- ---- values

-- a count, and values after it
array_around : (b : List ℕ) (o count : ℕ) (bytes : List ℕ) (From : ℕ → ℕ → Type 0) → count < 2 ^ 32 → ((p : ℕ) → BytesAt b p bytes → From p (length bytes)) → BytesAt b o (uleb128 count ++ bytes)
    → ArrayAround From count b o (length (uleb128 count ++ bytes))
array_around b o count bytes From lt rest h = (
  length (uleb128 count),
  length bytes,
  uleb128_written b o count lt (prefix_is_at (uleb128 count) bytes h),
  rest (o + length (uleb128 count)) (suffix_is_at (uleb128 count) bytes h),
  length-append (uleb128 count) bytes,
)

-- a type, a count, and elements after it
annotation_around : (b : List ℕ) (o index : ℕ) (t : Text) (names : List Text) (bytes : List ℕ) (From : ℕ → ℕ → Type 0) → TypeRow b index t × (index + 1 < 2 ^ 32) → length names < 2 ^ 32 → IsTrue (rises text_cmp names)
    → ((p : ℕ) → BytesAt b p bytes → From p (length bytes)) → BytesAt b o (uleb128 index ++ (uleb128 (length names) ++ bytes)) → AnnotationAround From t names b o (length (uleb128 index ++ (uleb128 (length names) ++ bytes)))
annotation_around b o index t names bytes From row lt rise rest h =
    let i = uleb128 index in
    let j = uleb128 (length names) in
    let following = suffix_is_at i (j ++ bytes) h in (
      length i,
      length j,
      length bytes,
      index,
      uleb128_written b o index (omega (arith, row.1)) (prefix_is_at i (j ++ bytes) h),
      row.0,
      uleb128_written b (o + length i) (length names) lt (prefix_is_at j bytes following),
      rest (o + length i + length j) (suffix_is_at j bytes following),
      rise,
      omega (arith, length-append i (j ++ bytes), length-append j bytes),
    )

module _ (b : List ℕ) (m : Mentions) where
  mutual
    -- a value is at the offset of its bytes
    pub value_written : (o : ℕ) (v : Value) → IsValue v → AreInRows b m (value_symbols v) → BytesAt b o (value_bytes m v) → ValueAt b o v (length (value_bytes m v))
    value_written o (ByteValue z) is are h = signed_written 0x00 1 b o z (omega arith) (omega arith) (room_8 z is) h
    value_written o (ShortValue z) is are h = signed_written 0x02 2 b o z (omega arith) (omega arith) (room_16 z is) h
    value_written o (CharValue u) is are h = unsigned_written 0x03 2 b o u (omega arith) (omega arith) is h
    value_written o (IntValue z) is are h = signed_written 0x04 4 b o z (omega arith) (omega arith) (room_32 z is) h
    value_written o (LongValue z) is are h = signed_written 0x06 8 b o z (omega arith) (omega arith) (fits_64 z is) h
    value_written o (FloatValue bits) is are h = bits_written 0x10 4 b o bits (omega arith) (omega arith) is h
    value_written o (DoubleValue bits) is are h = bits_written 0x11 8 b o bits (omega arith) (omega arith) is h
    value_written o (StringValue s) is are h = index_written StringRow 0x17 b o (text_index m s) s (first_in_row b m (TextSymbol s) [] are) h
    value_written o (TypeValue t) is are h = index_written TypeRow 0x18 b o (type_index m t) t (first_in_row b m (TypeSymbol t) [] are) h
    value_written o (FieldValue f) is are h = index_written FieldRow 0x19 b o (field_index m f) f (first_in_row b m (FieldSymbol f) [] are) h
    value_written o (MethodValue x) is are h = index_written MethodRow 0x1a b o (method_index m x) x (first_in_row b m (MethodSymbol x) [] are) h
    value_written o (EnumValue f) is are h = index_written FieldRow 0x1b b o (field_index m f) f (first_in_row b m (FieldSymbol f) [] are) h
    value_written o (ArrayValue vs) is are h =
        let bytes = uleb128 (count_values vs) ++ values_bytes m vs in (
          head_is_at (value_byte 0 0x1c) bytes h,
          length bytes,
          array_around b (o + 1) (count_values vs) (values_bytes m vs) (λ p k. ValuesAt b p vs k) is.1 (λ p s. values_written p vs is.0 are s) (tail_is_at (value_byte 0 0x1c) bytes h),
          omega arith,
        )
    value_written o (AnnotationValue t es) is are h =
        let bytes = uleb128 (type_index m t) ++ (uleb128 (length (names_of es)) ++ elements_bytes m es) in (
          head_is_at (value_byte 0 0x1d) bytes h,
          length bytes,
          annotation_around b (o + 1) (type_index m t) t (names_of es) (elements_bytes m es) (λ p k. ElementsAt b p es k) (first_in_row b m (TypeSymbol t) (elements_symbols es) are) is.1 is.2
              (λ p s. elements_written p es is.0 (rest_in_rows b m (TypeSymbol t) (elements_symbols es) are) s) (tail_is_at (value_byte 0 0x1d) bytes h),
          omega arith,
        )
    value_written o NullValue is are h = (h, refl)
    value_written o (BooleanValue false) is are h = (h, refl)
    value_written o (BooleanValue true) is are h = (h, refl)

    -- values in sequence are at the offset of their bytes
    pub values_written : (o : ℕ) (vs : Values) → AreValues vs → AreInRows b m (values_symbols vs) → BytesAt b o (values_bytes m vs) → ValuesAt b o vs (length (values_bytes m vs))
    values_written o NoValues is are h = refl
    values_written o (ThenValue v vs) is are h =
        let x = value_bytes m v in
        let y = values_bytes m vs in (
          length x,
          length y,
          value_written o v is.0 (prefix_in_rows b m (value_symbols v) (values_symbols vs) are) (prefix_is_at x y h),
          values_written (o + length x) vs is.1 (back_in_rows b m (value_symbols v) (values_symbols vs) are) (suffix_is_at x y h),
          length-append x y,
        )

    -- elements are at the offset of their bytes
    pub elements_written : (o : ℕ) (es : Elements) → AreElements es → AreInRows b m (elements_symbols es) → BytesAt b o (elements_bytes m es) → ElementsAt b o es (length (elements_bytes m es))
    elements_written o NoElements is are h = refl
    elements_written o (ThenElement name v es) is are h =
        let i = uleb128 (text_index m name) in
        let x = value_bytes m v in
        let y = elements_bytes m es in
        let row = first_in_row b m (TextSymbol name) (value_symbols v ++ elements_symbols es) are in
        let others = rest_in_rows b m (TextSymbol name) (value_symbols v ++ elements_symbols es) are in
        let following = suffix_is_at i (x ++ y) h in (
          length i,
          length x,
          length y,
          text_index m name,
          uleb128_written b o (text_index m name) (omega (arith, row.1)) (prefix_is_at i (x ++ y) h),
          row.0,
          value_written (o + length i) v is.0 (prefix_in_rows b m (value_symbols v) (elements_symbols es) others) (prefix_is_at x y following),
          elements_written (o + length i + length x) es is.1 (back_in_rows b m (value_symbols v) (elements_symbols es) others) (suffix_is_at x y following),
          omega (arith, length-append i (x ++ y), length-append x y),
        )

  -- an array is at the offset of its bytes
  pub array_written : (o : ℕ) (vs : Values) → AreValues vs → count_values vs < 2 ^ 32 → AreInRows b m (values_symbols vs) → BytesAt b o (encoded_array_bytes m vs) → EncodedArrayAt b o vs (length (encoded_array_bytes m vs))
  array_written o vs is count are h = array_around b o (count_values vs) (values_bytes m vs) (λ p k. ValuesAt b p vs k) count (λ p s. values_written p vs is are s) h

  -- an annotation is at the offset of its bytes, in the data
  pub annotation_written : (o : ℕ) (a : Annotation) → IsAnnotation a → AreInRows b m (annotation_symbols a) → data_off b ≤ o → BytesAt b o (annotation_bytes m a) → AnnotationAt b o a
  annotation_written o a is are following h =
      let bytes = uleb128 (type_index m a.type) ++ (uleb128 (length (names_of a.elements)) ++ elements_bytes m a.elements) in
      record {
        in_data = following;
        known = is.visibility;
        visibility = head_is_at a.visibility bytes h;
        annotation = (
          length bytes,
          annotation_around b (o + 1) (type_index m a.type) a.type (names_of a.elements) (elements_bytes m a.elements) (λ p k. ElementsAt b p a.elements k)
              (first_in_row b m (TypeSymbol a.type) (elements_symbols a.elements) are) is.count is.rise
              (λ p s. elements_written p a.elements is.elements (rest_in_rows b m (TypeSymbol a.type) (elements_symbols a.elements) are) s) (tail_is_at a.visibility bytes h),
        );
        shallow = is.shallow;
      }
