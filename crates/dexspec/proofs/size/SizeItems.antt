-- Upper bounds on the bytes of each item, by its weight.
use Rattle.dexspec.proofs.Common.{◌≡◌, ℕ, ◌+◌, ◌-◌, ◌*◌, ◌/◌, ◌%◌, ◌^◌, ◌≤◌, Bool, true, false, cond, List, [], ◌∷◌, ◌++◌, length, Option, Some, arith, flat_map, if◌then◌else◌, nat_lt, ◌==◌, length-append, unwrap_or, find, ℤ, All, rules, sum_by-le-sum_by, All-head, All-tail, length-flat_map, option_map, Debug, Values, Mentions}
use Rattle.dexspec.specs.{ushort, uint, uleb128, sleb128, plus_one, magnitude, Text, form, string_data, Operation, AdvancePc, AdvanceLine, StartLocal, StartLocalExtended, EndLocal, RestartLocal, SetFile, Value, ByteValue, ShortValue, CharValue, IntValue, LongValue, FloatValue, DoubleValue, StringValue, TypeValue, FieldValue, MethodValue, EnumValue, ArrayValue, AnnotationValue, NoValues, ThenValue, Elements, NoElements, ThenElement, count_values, Annotation, text_index, type_index, field_index, method_index, optional_text_bytes, optional_type_bytes, operation_bytes, debug_bytes, widths, unsigned_width, signed_width, bits_width, complement, unsigned_bytes, signed_bytes, bits_bytes, value_bytes, values_bytes, elements_bytes, encoded_array_bytes, annotation_bytes, offsets_bytes, text_weight, operands, debug_weight, value_weight, values_weight, elements_weight, annotation_weight, static_values_weight}
use Rattle.dexspec.proofs.numbers.{length-bytes_of, length-ushort, length-uint, uleb128_bounds, sleb128_bounds}
use Rattle.dexspec.proofs.size.SizeSums.{sum_by-at_most}
use Rattle.dexspec.proofs.written.PlacedBytes.{length_rows}

-- ---- numbers

pub uleb128-size : (v : ℕ) → length (uleb128 v) ≤ 5
uleb128-size v = (uleb128_bounds v).1

pub sleb128-size : (v : ℤ) → length (sleb128 v) ≤ 5
sleb128-size v = (sleb128_bounds v).1

pub if-size : (b : Bool) (n : ℕ) (xs ys : List ℕ) → length xs ≤ n → length ys ≤ n → length (if b then xs else ys) ≤ n
if-size true n xs ys h k = h
if-size false n xs ys h k = k

-- ---- texts

form-size : (u : ℕ) → length (form u) ≤ 3
form-size u = if-size (u == 0) 3 _ _ (omega arith) (if-size (nat_lt u 0x80) 3 _ _ (omega arith) (if-size (nat_lt u 0x800) 3 _ _ (omega arith) (omega arith)))

pub string_data-size : (s : Text) → length (string_data s) + 4 ≤ text_weight s
string_data-size s =
    let count = uleb128-size (length s) in
    let units = sum_by-at_most (λ u. length (form u)) 3 s form-size in
    omega (arith, length-append {A = ℕ}, length-flat_map form s, count, units)

-- ---- debug programs

optional_text-size : (m : Mentions) (s : Option Text) → length (optional_text_bytes m s) ≤ 5
optional_text-size m s = uleb128-size (plus_one (option_map (text_index m) s))

optional_type-size : (m : Mentions) (t : Option Text) → length (optional_type_bytes m t) ≤ 5
optional_type-size m t = uleb128-size (plus_one (option_map (type_index m) t))

operation-size : (m : Mentions) (op : Operation) → length (operation_bytes m op) ≤ 1 + 5 * operands op
operation-size m (AdvancePc addresses) = omega (arith, uleb128-size addresses)
operation-size m (AdvanceLine lines) = omega (arith, sleb128-size lines)
operation-size m (StartLocal register name type) = omega (arith, length-append {A = ℕ}, uleb128-size register, optional_text-size m name, optional_type-size m type)
operation-size m (StartLocalExtended register name type signature) = omega (arith, length-append {A = ℕ}, uleb128-size register, optional_text-size m name, optional_type-size m type, optional_text-size m signature)
operation-size m (EndLocal register) = omega (arith, uleb128-size register)
operation-size m (RestartLocal register) = omega (arith, uleb128-size register)
operation-size m (SetFile name) = omega (arith, optional_text-size m name)
operation-size m _ = omega arith

pub debug_bytes-size : (m : Mentions) (d : Debug) → length (debug_bytes m d) ≤ debug_weight d
unfolding debug_bytes
debug_bytes-size m d =
    let each = sum_by-at_most (λ s. length (optional_text_bytes m s)) 5 d.parameter_names (optional_text-size m) in
    let all = sum_by-le-sum_by (λ op. length (operation_bytes m op)) (λ op. 1 + 5 * operands op) d.operations (operation-size m) in
    omega (arith, length-append {A = ℕ}, uleb128-size, length-flat_map (optional_text_bytes m) d.parameter_names, length-flat_map (operation_bytes m) d.operations, each, all)

-- ---- values and annotations

-- the first that is found is a member of the list
found-at_most : (p : ℕ → Bool) (ns : List ℕ) (d n : ℕ) → All (λ k. k ≤ n) ns → d ≤ n → unwrap_or (find p ns) d ≤ n
found-at_most p [] d n h le = le
found-at_most p (k ∷ ns) d n h le = by (p k) (found-at_most p ns d n (All-tail (λ j. j ≤ n) k ns h) le)
  where
    by : (b : Bool) → unwrap_or (find p ns) d ≤ n → unwrap_or (cond b (Some k) (find p ns)) d ≤ n
    by true again = All-head (λ j. j ≤ n) k ns h
    by false again = again

width-at_most : (p : ℕ → Bool) (d : ℕ) → d ≤ 8 → unwrap_or (find p widths) d ≤ 8
width-at_most p d le = found-at_most p widths d 8 (search rules) le

unsigned_bytes-size : (code v : ℕ) → length (unsigned_bytes code v) ≤ 9
unsigned_bytes-size code v = omega (arith, length-bytes_of (unsigned_width v) v, width-at_most (λ n. nat_lt v (256 ^ n)) 8 (omega arith))

signed_bytes-size : (code : ℕ) (z : ℤ) → length (signed_bytes code z) ≤ 9
signed_bytes-size code z = omega (arith, length-bytes_of (signed_width z) (complement (signed_width z) z), width-at_most (λ n. nat_lt (2 * magnitude z) (256 ^ n)) 8 (omega arith))

bits_bytes-size : (code width v : ℕ) → width ≤ 8 → length (bits_bytes code width v) ≤ 9
bits_bytes-size code width v le = omega (arith, length-bytes_of (bits_width width v) (v / 256 ^ (width - bits_width width v)), width-at_most (λ n. v % 256 ^ (width - n) == 0) width le)

mutual
  pub value_bytes-size : (m : Mentions) (v : Value) → length (value_bytes m v) ≤ value_weight v
  value_bytes-size m (ByteValue z) = signed_bytes-size 0x00 z
  value_bytes-size m (ShortValue z) = signed_bytes-size 0x02 z
  value_bytes-size m (CharValue u) = unsigned_bytes-size 0x03 u
  value_bytes-size m (IntValue z) = signed_bytes-size 0x04 z
  value_bytes-size m (LongValue z) = signed_bytes-size 0x06 z
  value_bytes-size m (FloatValue bits) = bits_bytes-size 0x10 4 bits (omega arith)
  value_bytes-size m (DoubleValue bits) = bits_bytes-size 0x11 8 bits (omega arith)
  value_bytes-size m (StringValue s) = unsigned_bytes-size 0x17 (text_index m s)
  value_bytes-size m (TypeValue t) = unsigned_bytes-size 0x18 (type_index m t)
  value_bytes-size m (FieldValue f) = unsigned_bytes-size 0x19 (field_index m f)
  value_bytes-size m (MethodValue x) = unsigned_bytes-size 0x1a (method_index m x)
  value_bytes-size m (EnumValue f) = unsigned_bytes-size 0x1b (field_index m f)
  value_bytes-size m (ArrayValue vs) = omega (arith, length-append (uleb128 (count_values vs)) (values_bytes m vs), uleb128-size (count_values vs), values_bytes-size m vs)
  value_bytes-size m (AnnotationValue t es) = omega (arith, length-append {A = ℕ}, uleb128-size, elements_bytes-size m es)
  value_bytes-size m _ = omega arith

  pub values_bytes-size : (m : Mentions) (vs : Values) → length (values_bytes m vs) ≤ values_weight vs
  values_bytes-size m NoValues = omega arith
  values_bytes-size m (ThenValue v vs) = omega (arith, length-append (value_bytes m v) (values_bytes m vs), value_bytes-size m v, values_bytes-size m vs)

  pub elements_bytes-size : (m : Mentions) (es : Elements) → length (elements_bytes m es) ≤ elements_weight es
  elements_bytes-size m NoElements = omega arith
  elements_bytes-size m (ThenElement name v es) = omega (arith, length-append {A = ℕ}, uleb128-size, value_bytes-size m v, elements_bytes-size m es)

pub encoded_array_bytes-size : (m : Mentions) (v : Value) (vs : Values) → length (encoded_array_bytes m (ThenValue v vs)) ≤ static_values_weight (ThenValue v vs)
encoded_array_bytes-size m v vs = omega (arith, length-append {A = ℕ}, uleb128-size, values_bytes-size m (ThenValue v vs))

pub annotation_bytes-size : (m : Mentions) (a : Annotation) → length (annotation_bytes m a) ≤ annotation_weight a
annotation_bytes-size m a = omega (arith, length-append {A = ℕ}, uleb128-size, elements_bytes-size m a.elements)

-- ---- lists of offsets and of types

pub offsets_bytes-size : (offs : List ℕ) → length (offsets_bytes offs) ≡ 4 + 4 * length offs
offsets_bytes-size offs = omega (arith, length-append (uint (length offs)) (flat_map uint offs), length-uint (length offs), length_rows uint 4 length-uint offs)

pub type_list-size : (m : Mentions) (ts : List Text) → length (uint (length ts) ++ flat_map (λ t. ushort (type_index m t)) ts) ≡ 4 + 2 * length ts
type_list-size m ts =
    let row = λ (t : Text). ushort (type_index m t) in
    omega (arith, length-append (uint (length ts)) (flat_map row ts), length-uint (length ts), length_rows row 2 (λ t. length-ushort (type_index m t)) ts)
