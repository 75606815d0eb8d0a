-- The canonical bytes of each item, for given pools and offsets: every encoding is the shortest. Source: "Dalvik
-- Executable format", the headings that the files on reading each item name. The shortest encoding, and the order of
-- handlers by first use, are this project's rule.
use Rattle.std.specs.Prelude.{ℕ, suc, ℤ, pos, negsuc, ◌-ℤ◌, ◌+◌, ◌-◌, ◌*◌, ◌/◌, ◌%◌, ◌^◌, ◌==◌, nat_lt, if◌then◌else◌}
use Rattle.std.specs.Prelude.{List, [], ◌∷◌, ◌++◌, length, map, take, drop, Option, Some, unwrap_or, option_to_list}
use Rattle.std.specs.List.{flat_map, concat, find, zip}
use Rattle.std.specs.Option.{option_map, option_map_or}
use Rattle.dexspec.specs.Lists.{rank, zip_with}
use Rattle.dexspec.specs.Bytes.{bytes_of, ushort, uint}
use Rattle.dexspec.specs.Numbers.{uleb128, sleb128, uleb128p1, magnitude}
use Rattle.dexspec.specs.Texts.{Text, text_cmp}
use Rattle.dexspec.specs.Symbols.{Proto, Field, Method, Symbol, TextSymbol, TypeSymbol, ProtoSymbol, FieldSymbol}
use Rattle.dexspec.specs.Symbols.{MethodSymbol, proto_cmp, field_cmp, method_cmp}
use Rattle.dexspec.specs.Pieces.{Piece, Instruction, units_of, with_index}
use Rattle.dexspec.specs.Code.{Catch, Handler, Try, Code, same_handler, handlers_of}
use Rattle.dexspec.specs.Debug.{Operation, AdvancePc, AdvanceLine, StartLocal, StartLocalExtended, EndLocal}
use Rattle.dexspec.specs.Debug.{RestartLocal, SetPrologueEnd, SetEpilogueBegin, SetFile, Special, Debug}
use Rattle.dexspec.specs.Values.{Value, ByteValue, ShortValue, CharValue, IntValue, LongValue, FloatValue, DoubleValue}
use Rattle.dexspec.specs.Values.{StringValue, TypeValue, FieldValue, MethodValue, EnumValue, ArrayValue}
use Rattle.dexspec.specs.Values.{AnnotationValue, NullValue, BooleanValue, Values, NoValues, ThenValue, Elements}
use Rattle.dexspec.specs.Values.{NoElements, ThenElement, count_values, names_of, value_byte}
use Rattle.dexspec.specs.Annotations.{Annotation}
use Rattle.dexspec.specs.Classes.{FieldDef, MethodDef, Definition}
use Rattle.dexspec.specs.Mentions.{Mentions, field_of, method_of}

-- ---- indices: the number of lesser symbols of the pool

-- the index of a text
abbrev pub text_index : Mentions → Text → ℕ
text_index m s = rank text_cmp s m.texts

-- the index of a type
abbrev pub type_index : Mentions → Text → ℕ
type_index m t = rank text_cmp t m.types

-- the index of a proto
abbrev pub proto_index : Mentions → Proto → ℕ
proto_index m p = rank proto_cmp p m.protos

-- the index of a field
abbrev pub field_index : Mentions → Field → ℕ
field_index m f = rank field_cmp f m.fields

-- the index of a method
abbrev pub method_index : Mentions → Method → ℕ
method_index m x = rank method_cmp x m.methods

-- the index of a symbol in its pool
abbrev pub symbol_index : Mentions → Symbol → ℕ
symbol_index m (TextSymbol s) = text_index m s
symbol_index m (TypeSymbol t) = type_index m t
symbol_index m (ProtoSymbol p) = proto_index m p
symbol_index m (FieldSymbol f) = field_index m f
symbol_index m (MethodSymbol x) = method_index m x

-- ---- type lists

-- a type_list
abbrev pub type_list_bytes : Mentions → List Text → List ℕ
type_list_bytes m ts = uint (length ts) ++ flat_map (λ t. ushort (type_index m t)) ts

-- ---- code

-- the units of a piece with its index
abbrev pub piece_units : Mentions → Piece → List ℕ
piece_units m (Instruction us (Some s)) = with_index (symbol_index m s) us
piece_units m p = units_of p

-- an encoded_type_addr_pair
abbrev pub catch_bytes : Mentions → Catch → List ℕ
catch_bytes m c = uleb128 (type_index m c.type) ++ uleb128 c.address

-- the number of catches; it is 0 or less if there is a catch-all address
abbrev pub handler_count : Handler → ℤ
handler_count h = option_map_or (λ address. pos 0 -ℤ pos (length h.catches)) h.catch_all (pos (length h.catches))

-- an encoded_catch_handler
abbrev pub handler_bytes : Mentions → Handler → List ℕ
handler_bytes m h =
    sleb128 (handler_count h) ++ (flat_map (catch_bytes m) h.catches ++ flat_map uleb128 (option_to_list h.catch_all))

-- the offset of a handler among handlers of which the first is at an offset
abbrev pub handler_off : Mentions → ℕ → List Handler → Handler → ℕ
handler_off m at [] h = at
handler_off m at (k ∷ ks) h = if same_handler k h then at else handler_off m (at + length (handler_bytes m k)) ks h

-- a try_item
abbrev pub try_bytes : Mentions → List Handler → Try → List ℕ
try_bytes m hs t =
    uint t.start ++ (ushort t.count ++ ushort (handler_off m (length (uleb128 (length hs))) hs t.handler))

-- an encoded_catch_handler_list
abbrev pub handler_list_bytes : Mentions → List Handler → List ℕ
handler_list_bytes m hs = uleb128 (length hs) ++ flat_map (handler_bytes m) hs

-- after `count` units: a zero ushort if `count` is odd, the tries, and the handlers that they name
abbrev pub tries_bytes : Mentions → ℕ → List Try → List ℕ
tries_bytes m count [] = []
tries_bytes m count (t ∷ ts) = (if count % 2 == 1 then ushort 0 else [])
    ++ (flat_map (try_bytes m (handlers_of (t ∷ ts))) (t ∷ ts) ++ handler_list_bytes m (handlers_of (t ∷ ts)))

-- a code_item whose debug program has this offset
unfoldable pub code_bytes : Mentions → ℕ → Code → List ℕ
code_bytes m debug_off c =
    let units = flat_map (piece_units m) c.pieces in
    ushort c.registers ++ (ushort c.ins ++ (ushort c.outs ++ (ushort (length c.tries) ++ (uint debug_off
    ++ (uint (length units) ++ (flat_map ushort units ++ tries_bytes m (length units) c.tries))))))

-- ---- debug programs

-- a uleb128p1 of a string's index
abbrev pub optional_text_bytes : Mentions → Option Text → List ℕ
optional_text_bytes m s = uleb128p1 (option_map (text_index m) s)

-- a uleb128p1 of a type's index
abbrev pub optional_type_bytes : Mentions → Option Text → List ℕ
optional_type_bytes m t = uleb128p1 (option_map (type_index m) t)

-- an operation of a debug program
abbrev pub operation_bytes : Mentions → Operation → List ℕ
operation_bytes m (AdvancePc addresses) = 0x01 ∷ uleb128 addresses
operation_bytes m (AdvanceLine lines) = 0x02 ∷ sleb128 lines
operation_bytes m (StartLocal register name type) =
    0x03 ∷ (uleb128 register ++ (optional_text_bytes m name ++ optional_type_bytes m type))
operation_bytes m (StartLocalExtended register name type signature) = 0x04 ∷ (uleb128 register
    ++ (optional_text_bytes m name ++ (optional_type_bytes m type ++ optional_text_bytes m signature)))
operation_bytes m (EndLocal register) = 0x05 ∷ uleb128 register
operation_bytes m (RestartLocal register) = 0x06 ∷ uleb128 register
operation_bytes m SetPrologueEnd = 0x07 ∷ []
operation_bytes m SetEpilogueBegin = 0x08 ∷ []
operation_bytes m (SetFile name) = 0x09 ∷ optional_text_bytes m name
operation_bytes m (Special opcode) = opcode ∷ []

-- a debug_info_item
unfoldable pub debug_bytes : Mentions → Debug → List ℕ
debug_bytes m d = uleb128 d.line_start ++ (uleb128 (length d.parameter_names)
    ++ (flat_map (optional_text_bytes m) d.parameter_names ++ (flat_map (operation_bytes m) d.operations ++ 0x00 ∷ [])))

-- ---- values and annotations

-- the possible numbers of bytes of a value
abbrev pub widths : List ℕ
widths = 1 ∷ 2 ∷ 3 ∷ 4 ∷ 5 ∷ 6 ∷ 7 ∷ 8 ∷ []

-- the minimum number of bytes for an unsigned number, at least one
abbrev pub unsigned_width : ℕ → ℕ
unsigned_width v = unwrap_or (find (λ n. nat_lt v (256 ^ n)) widths) 8

-- the minimum number of bytes for a signed number and its sign
abbrev pub signed_width : ℤ → ℕ
signed_width z = unwrap_or (find (λ n. nat_lt (2 * magnitude z) (256 ^ n)) widths) 8

-- the minimum number of bytes for a bit pattern of `width` bytes without the zeros at its low end
abbrev pub bits_width : ℕ → ℕ → ℕ
bits_width width v = unwrap_or (find (λ n. v % 256 ^ (width - n) == 0) widths) width

-- a signed number in two's complement of n bytes
abbrev pub complement : ℕ → ℤ → ℕ
complement n (pos v) = v
complement n (negsuc v) = 256 ^ n - suc v

-- a value of an unsigned kind, in its least width
abbrev pub unsigned_bytes : ℕ → ℕ → List ℕ
unsigned_bytes code v = value_byte (unsigned_width v - 1) code ∷ bytes_of (unsigned_width v) v

-- a value of a signed kind
abbrev pub signed_bytes : ℕ → ℤ → List ℕ
signed_bytes code z = value_byte (signed_width z - 1) code ∷ bytes_of (signed_width z) (complement (signed_width z) z)

-- a float or a double
abbrev pub bits_bytes : ℕ → ℕ → ℕ → List ℕ
bits_bytes code width v = let n = bits_width width v in value_byte (n - 1) code ∷ bytes_of n (v / 256 ^ (width - n))

abbrev mutual
  -- an encoded_value
  pub value_bytes : Mentions → Value → List ℕ
  value_bytes m (ByteValue z) = signed_bytes 0x00 z
  value_bytes m (ShortValue z) = signed_bytes 0x02 z
  value_bytes m (CharValue u) = unsigned_bytes 0x03 u
  value_bytes m (IntValue z) = signed_bytes 0x04 z
  value_bytes m (LongValue z) = signed_bytes 0x06 z
  value_bytes m (FloatValue bits) = bits_bytes 0x10 4 bits
  value_bytes m (DoubleValue bits) = bits_bytes 0x11 8 bits
  value_bytes m (StringValue s) = unsigned_bytes 0x17 (text_index m s)
  value_bytes m (TypeValue t) = unsigned_bytes 0x18 (type_index m t)
  value_bytes m (FieldValue f) = unsigned_bytes 0x19 (field_index m f)
  value_bytes m (MethodValue x) = unsigned_bytes 0x1a (method_index m x)
  value_bytes m (EnumValue f) = unsigned_bytes 0x1b (field_index m f)
  value_bytes m (ArrayValue vs) = value_byte 0 0x1c ∷ (uleb128 (count_values vs) ++ values_bytes m vs)
  value_bytes m (AnnotationValue t es) =
      value_byte 0 0x1d ∷ (uleb128 (type_index m t) ++ (uleb128 (length (names_of es)) ++ elements_bytes m es))
  value_bytes m NullValue = value_byte 0 0x1e ∷ []
  value_bytes m (BooleanValue is) = value_byte (if is then 1 else 0) 0x1f ∷ []

  -- values in sequence
  pub values_bytes : Mentions → Values → List ℕ
  values_bytes m NoValues = []
  values_bytes m (ThenValue v vs) = value_bytes m v ++ values_bytes m vs

  -- annotation_elements in sequence
  pub elements_bytes : Mentions → Elements → List ℕ
  elements_bytes m NoElements = []
  elements_bytes m (ThenElement name v es) = uleb128 (text_index m name) ++ (value_bytes m v ++ elements_bytes m es)

-- an encoded_array
abbrev pub encoded_array_bytes : Mentions → Values → List ℕ
encoded_array_bytes m vs = uleb128 (count_values vs) ++ values_bytes m vs

-- an annotation_item
abbrev pub annotation_bytes : Mentions → Annotation → List ℕ
annotation_bytes m a =
    a.visibility
    ∷ (uleb128 (type_index m a.type) ++ (uleb128 (length (names_of a.elements)) ++ elements_bytes m a.elements))

-- a count and offsets: an annotation_set_item or an annotation_set_ref_list
abbrev pub offsets_bytes : List ℕ → List ℕ
offsets_bytes offsets = uint (length offsets) ++ flat_map uint offsets

-- ---- class data

-- members as differences: the first index, then the difference of each to the one before it
abbrev pub differences : ℕ → List ℕ → List ℕ
differences last [] = []
differences last (i ∷ is) = (i - last) ∷ differences i is

-- encoded_fields of one list
abbrev pub encoded_fields_bytes : Mentions → Text → List FieldDef → List ℕ
encoded_fields_bytes m class fs = concat (zip_with (λ f difference. uleb128 difference ++ uleb128 f.flags) fs
    (differences 0 (map (λ f. field_index m (field_of class f)) fs)))

-- an encoded_method, of its difference and the offset of its code
abbrev pub encoded_method_bytes : MethodDef → ℕ × ℕ → List ℕ
encoded_method_bytes x p = uleb128 p.0 ++ (uleb128 x.flags ++ uleb128 p.1)

-- the methods with the offsets of their code
abbrev pub encoded_methods_bytes : Mentions → Text → List MethodDef → List ℕ → List ℕ
encoded_methods_bytes m class xs code_offs =
    concat
    (zip_with encoded_method_bytes xs
    (zip (differences 0 (map (λ x. method_index m (method_of class x)) xs)) code_offs))

-- a class_data_item
unfoldable pub class_data_bytes : Mentions → Definition → List ℕ → List ℕ
class_data_bytes m (name, c) code_offs = uleb128 (length c.static_fields)
    ++ (uleb128 (length c.instance_fields) ++ (uleb128 (length c.direct_methods) ++ (uleb128 (length c.virtual_methods)
    ++ (encoded_fields_bytes m name c.static_fields ++ (encoded_fields_bytes m name c.instance_fields
    ++ (encoded_methods_bytes m name c.direct_methods (take (length c.direct_methods) code_offs)
    ++ encoded_methods_bytes m name c.virtual_methods (drop (length c.direct_methods) code_offs)))))))
