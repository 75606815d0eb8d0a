-- The full listing that `dump --all` writes: a line, or part of one, for all that a class has, so that two classes with
-- the same full listing are the same. This project's rules, but for the mnemonics, which are those of the page "Dalvik
-- bytecode", the operands, which are written as that page writes them, and the names of debug operations, which are
-- those of "Dalvik Executable format", "Byte code values", in small letters.
use Rattle.std.specs.Prelude.{ℕ, zero, suc, ℤ, pos, negsuc, nat_abs, ◌+ℤ◌, ◌-ℤ◌, ◌+◌, ◌-◌, ◌*◌, ◌/◌, ◌%◌, ◌^◌, ◌==◌}
use Rattle.std.specs.Prelude.{◌||◌, ◌&&◌, nat_lt, nat_le, Bool, true, false, if◌then◌else◌, List, [], ◌∷◌, ◌++◌, take}
use Rattle.std.specs.Prelude.{length, slice_index, Option, Some, None, codes, decimal}
use Rattle.std.specs.List.{flat_map, list_any}
use Rattle.std.specs.Option.{option_map_or}
use Rattle.dexspec.specs.Bytes.{signed_in}
use Rattle.dexstr.specs.Escapes.{escaped}
use Rattle.dexspec.specs.Texts.{Text}
use Rattle.dexspec.specs.Symbols.{Symbol, MethodSymbol, FieldSymbol, Method}
use Rattle.dexspec.specs.Opcodes.{Format, Opcode, F10x, F12x, F11n, F11x, F10t, F20t, F22x, F21t, F21s, F21h, F21c}
use Rattle.dexspec.specs.Opcodes.{F23x, F22b, F22s, F22t, F22c, F30t, F32x, F31i, F31t, F31c, F35c, F3rc, F51l}
use Rattle.dexspec.specs.Opcodes.{opcode_of}
use Rattle.dexspec.specs.Pieces.{Piece, Instruction, Payload, units_of, low_byte, high_byte, two_units, int_in, ints_in}
use Rattle.dexspec.specs.Pieces.{packed_switch_ident, sparse_switch_ident, branch_offset}
use Rattle.dexspec.specs.Debug.{Operation, AdvancePc, AdvanceLine, StartLocal, StartLocalExtended, EndLocal}
use Rattle.dexspec.specs.Debug.{RestartLocal, SetPrologueEnd, SetEpilogueBegin, SetFile, Special, Debug}
use Rattle.dexdebug.specs.Positions.{address_step, line_step}
use Rattle.dexspec.specs.Code.{Catch, Handler, Try, Code}
use Rattle.dexspec.specs.Values.{Value, ByteValue, ShortValue, CharValue, IntValue, LongValue, FloatValue, DoubleValue}
use Rattle.dexspec.specs.Values.{StringValue, TypeValue, FieldValue, MethodValue, EnumValue, ArrayValue}
use Rattle.dexspec.specs.Values.{AnnotationValue, NullValue, BooleanValue, Values, NoValues, ThenValue, Elements}
use Rattle.dexspec.specs.Values.{NoElements, ThenElement}
use Rattle.dexspec.specs.Annotations.{Annotation, AnnotationSet}
use Rattle.dexspec.specs.Classes.{Definition, FieldDef, MethodDef}
use Rattle.dexspec.specs.Files.{Collection, definitions}
use Rattle.dexspec.specs.Depth.{in_class_order}
use Rattle.dexflags.specs.Flags.{OfField, OfMethod, flags_text}
use Rattle.dexout.specs.Printed.{shown, quoted, count_text, place_text}
use Rattle.dexlisting.specs.Listing.{own_field_text, own_method_text, symbol_text, mnemonic_text, payload_text}
use Rattle.dexlisting.specs.Listing.{counts_line, own_line, interface_line, source_line, chosen}

-- ---- names and numbers

-- from one unit to another
abbrev pub is_between : ℕ → ℕ → ℕ → Bool
is_between first last unit = nat_le first unit && nat_le unit last

-- a letter or a digit of ASCII, or `$` `-` `<` `>` `_`
abbrev pub is_plain : ℕ → Bool
is_plain unit = is_between 0x61 0x7a unit || (is_between 0x41 0x5a unit || (is_between 0x30 0x39 unit
    || list_any (λ sign. unit == sign) (0x24 ∷ 0x2d ∷ 0x3c ∷ 0x3e ∷ 0x5f ∷ [])))

-- a unit of the name of a member: every other unit by its number, so that a name ends where a sign is that no name has
abbrev pub plain_unit : ℕ → List ℕ
plain_unit unit = if is_plain unit then unit ∷ [] else escaped unit

-- the name of a member
abbrev pub plain : Text → List ℕ
plain name = flat_map plain_unit name

-- a number with its sign
unfoldable pub signed_text : ℤ → List ℕ
signed_text (pos n) = codes "+" ++ decimal n
signed_text (negsuc n) = codes "-" ++ decimal (suc n)

-- a text, a name or a type, or a dash for none
abbrev pub text_or_dash : (Text → List ℕ) → Option Text → List ℕ
text_or_dash text s = option_map_or text s (codes "-")

-- ---- operands

-- a register
unfoldable pub register_text : ℕ → List ℕ
register_text n = count_text (codes "v") n

-- registers with commas between them
abbrev pub registers_text : List ℕ → List ℕ
registers_text [] = []
registers_text (n ∷ []) = register_text n
registers_text (n ∷ ns) = register_text n ++ (codes ", " ++ registers_text ns)

-- a literal
unfoldable pub literal_text : ℤ → List ℕ
literal_text z = codes "#" ++ signed_text z

-- the address to which an instruction at a unit refers
unfoldable pub target_text : ℕ → ℤ → List ℕ
target_text at offset = place_text (nat_abs (pos at +ℤ offset))

-- the bits 8 to 11 of a unit
abbrev pub third_nibble : ℕ → ℕ
third_nibble u = u / 256 % 16

-- the bits 12 to 15
abbrev pub fourth_nibble : ℕ → ℕ
fourth_nibble u = u / 4096

-- a number of four bits in two's complement
abbrev pub signed_nibble : ℕ → ℤ
signed_nibble n = if nat_lt n 8 then pos n else pos n -ℤ pos 16

-- the literal of format 21h: the high bits of 64 for const-wide/high16, and of 32 otherwise
abbrev pub high_literal : List ℕ → ℤ
high_literal us =
    if low_byte (slice_index us 0) == 0x19 then signed_in 8 (2 ^ 48 * slice_index us 1)
    else signed_in 4 (2 ^ 16 * slice_index us 1)

-- the number of 64 bits of format 51l
abbrev pub long_literal : List ℕ → ℤ
long_literal us = signed_in 8 (two_units us 1 + 2 ^ 32 * two_units us 3)

-- the registers of format 35c, of which the first unit has the number
abbrev pub listed_registers : List ℕ → List ℕ
listed_registers us = take (fourth_nibble (slice_index us 0))
    (slice_index us 2 % 16 ∷ slice_index us 2 / 16 % 16 ∷ third_nibble (slice_index us 2)
    ∷ fourth_nibble (slice_index us 2) ∷ third_nibble (slice_index us 0) ∷ [])

-- as many consecutive registers, the first of this number
abbrev pub range_text : ℕ → ℕ → List ℕ
range_text first zero = []
range_text first (suc n) = register_text first ++ (codes " .. " ++ register_text (first + n))

-- registers, literals and addresses of an instruction of a format at a unit, each after a blank
abbrev pub operands_text : Format → ℕ → List ℕ → List ℕ
operands_text F10x at us = []
operands_text F12x at us =
    codes " "
    ++ (register_text (third_nibble (slice_index us 0))
    ++ (codes ", " ++ register_text (fourth_nibble (slice_index us 0))))
operands_text F11n at us =
    codes " "
    ++ (register_text (third_nibble (slice_index us 0))
    ++ (codes ", " ++ literal_text (signed_nibble (fourth_nibble (slice_index us 0)))))
operands_text F11x at us = codes " " ++ register_text (high_byte (slice_index us 0))
operands_text F10t at us = codes " " ++ target_text at (signed_in 1 (high_byte (slice_index us 0)))
operands_text F20t at us = codes " " ++ target_text at (signed_in 2 (slice_index us 1))
operands_text F30t at us = codes " " ++ target_text at (int_in us 1)
operands_text F22x at us =
    codes " " ++ (register_text (high_byte (slice_index us 0)) ++ (codes ", " ++ register_text (slice_index us 1)))
operands_text F21t at us =
    codes " "
    ++ (register_text (high_byte (slice_index us 0)) ++ (codes ", " ++ target_text at (signed_in 2 (slice_index us 1))))
operands_text F31t at us =
    codes " " ++ (register_text (high_byte (slice_index us 0)) ++ (codes ", " ++ target_text at (int_in us 1)))
operands_text F21s at us =
    codes " "
    ++ (register_text (high_byte (slice_index us 0)) ++ (codes ", " ++ literal_text (signed_in 2 (slice_index us 1))))
operands_text F21h at us =
    codes " " ++ (register_text (high_byte (slice_index us 0)) ++ (codes ", " ++ literal_text (high_literal us)))
operands_text F21c at us = codes " " ++ register_text (high_byte (slice_index us 0))
operands_text F31c at us = codes " " ++ register_text (high_byte (slice_index us 0))
operands_text F23x at us = codes " " ++ (register_text (high_byte (slice_index us 0)) ++ (codes ", "
    ++ (register_text (low_byte (slice_index us 1)) ++ (codes ", " ++ register_text (high_byte (slice_index us 1))))))
operands_text F22b at us = codes " " ++ (register_text (high_byte (slice_index us 0)) ++ (codes ", "
    ++ (register_text (low_byte (slice_index us 1))
    ++ (codes ", " ++ literal_text (signed_in 1 (high_byte (slice_index us 1)))))))
operands_text F22s at us = codes " " ++ (register_text (third_nibble (slice_index us 0)) ++ (codes ", "
    ++ (register_text (fourth_nibble (slice_index us 0))
    ++ (codes ", " ++ literal_text (signed_in 2 (slice_index us 1))))))
operands_text F22t at us = codes " " ++ (register_text (third_nibble (slice_index us 0)) ++ (codes ", "
    ++ (register_text (fourth_nibble (slice_index us 0))
    ++ (codes ", " ++ target_text at (signed_in 2 (slice_index us 1))))))
operands_text F22c at us =
    codes " "
    ++ (register_text (third_nibble (slice_index us 0))
    ++ (codes ", " ++ register_text (fourth_nibble (slice_index us 0))))
operands_text F32x at us =
    codes " " ++ (register_text (slice_index us 1) ++ (codes ", " ++ register_text (slice_index us 2)))
operands_text F31i at us =
    codes " " ++ (register_text (high_byte (slice_index us 0)) ++ (codes ", " ++ literal_text (int_in us 1)))
operands_text F51l at us =
    codes " " ++ (register_text (high_byte (slice_index us 0)) ++ (codes ", " ++ literal_text (long_literal us)))
operands_text F35c at us = codes " {" ++ (registers_text (listed_registers us) ++ codes "}")
operands_text F3rc at us = codes " {" ++ (range_text (slice_index us 2) (high_byte (slice_index us 0)) ++ codes "}")

-- ---- instructions and payloads

-- mnemonic and operands of the instruction at a unit that has these units
unfoldable pub instruction_text : ℕ → List ℕ → List ℕ
instruction_text at us =
    mnemonic_text us ++ option_map_or (λ op. operands_text op.format at us) (opcode_of (low_byte (slice_index us 0))) []

-- the symbol of an instruction after its operands, if it has one
abbrev pub symbol_operand : Option Symbol → List ℕ
symbol_operand None = []
symbol_operand (Some s) = codes ", " ++ symbol_text plain s

-- distances from a switch, each after a blank
abbrev pub offsets_text : List ℤ → List ℕ
offsets_text zs = flat_map (λ z. codes " " ++ signed_text z) zs

-- keys, each after a blank
abbrev pub keys_text : List ℤ → List ℕ
keys_text zs = flat_map (λ z. codes " " ++ literal_text z) zs

-- the keys of a switch and the distances of their targets; the elements of array data are in its units
unfoldable pub entries_text : List ℕ → List ℕ
entries_text us =
    if slice_index us 0 == packed_switch_ident
    then codes " first="
    ++ (literal_text (int_in us 2) ++ (codes " targets=" ++ offsets_text (ints_in us 4 (slice_index us 1))))
    else (if slice_index us 0 == sparse_switch_ident
    then codes " keys="
    ++ (keys_text (ints_in us 2 (slice_index us 1))
    ++ (codes " targets=" ++ offsets_text (ints_in us (2 + 2 * slice_index us 1) (slice_index us 1))))
    else [])

-- what an instruction or payload at a unit is
abbrev pub full_piece_text : ℕ → Piece → List ℕ
full_piece_text at (Instruction us s) = instruction_text at us ++ symbol_operand s
full_piece_text at (Payload us) = payload_text us ++ entries_text us

-- units, each of four hexadecimal digits, and a blank after each
abbrev pub units_text : List ℕ → List ℕ
units_text us = flat_map (λ u. place_text u ++ codes " ") us

-- the line of an instruction or payload at a unit of a method: its units, what it is, and the method
unfoldable pub full_piece_line : List ℕ → ℕ → Piece → List ℕ
full_piece_line method at p = codes "    " ++ (place_text at ++ (codes ": " ++ (units_text (units_of p) ++ (codes "| "
    ++ (full_piece_text at p ++ (codes "\t" ++ (method ++ codes "\n")))))))

-- a line for each of them, the first at a unit
abbrev pub full_piece_lines : List ℕ → ℕ → List Piece → List ℕ
full_piece_lines method at [] = []
full_piece_lines method at (p ∷ ps) =
    full_piece_line method at p ++ full_piece_lines method (at + length (units_of p)) ps

-- ---- tries and handlers

-- the line of a type that is caught
unfoldable pub catch_line : Catch → List ℕ
catch_line c = codes "      catch " ++ (shown c.type ++ (codes " " ++ (place_text c.address ++ codes "\n")))

-- the line of the address at which everything else is caught
unfoldable pub catch_all_line : ℕ → List ℕ
catch_all_line address = codes "      catch-all " ++ (place_text address ++ codes "\n")

-- the lines of a try: the first unit that it covers, the number of units, and its handler
unfoldable pub try_lines : Try → List ℕ
try_lines t = codes "    try " ++ (place_text t.start ++ (count_text (codes " units=") t.count ++ (codes "\n"
    ++ (flat_map catch_line t.handler.catches ++ option_map_or catch_all_line t.handler.catch_all []))))

-- ---- debug programs

-- a register and a name, a type, a signature of a local variable
abbrev pub local_text : ℕ → Option Text → Option Text → List ℕ
local_text register name type =
    register_text register ++ (codes " " ++ (text_or_dash quoted name ++ (codes " " ++ text_or_dash shown type)))

-- an operation that leaves this address and this line; a special operation records both
abbrev pub operation_text : ℕ → ℤ → Operation → List ℕ
operation_text address line (AdvancePc addresses) = count_text (codes "advance-pc ") addresses
operation_text address line (AdvanceLine lines) = codes "advance-line " ++ signed_text lines
operation_text address line (StartLocal register name type) = codes "start-local " ++ local_text register name type
operation_text address line (StartLocalExtended register name type signature) =
    codes "start-local-extended " ++ (local_text register name type ++ (codes " " ++ text_or_dash quoted signature))
operation_text address line (EndLocal register) = codes "end-local " ++ register_text register
operation_text address line (RestartLocal register) = codes "restart-local " ++ register_text register
operation_text address line SetPrologueEnd = codes "set-prologue-end"
operation_text address line SetEpilogueBegin = codes "set-epilogue-begin"
operation_text address line (SetFile name) = codes "set-file " ++ text_or_dash quoted name
operation_text address line (Special opcode) =
    codes "position "
    ++ (place_text address ++ (codes " line=" ++ (signed_text line ++ count_text (codes " opcode=") opcode)))

-- its line
unfoldable pub operation_line : ℕ → ℤ → Operation → List ℕ
operation_line address line op = codes "      " ++ (operation_text address line op ++ codes "\n")

-- a line for each operation, from an address and a line on
abbrev pub operation_lines : ℕ → ℤ → List Operation → List ℕ
operation_lines address line [] = []
operation_lines address line (op ∷ ops) =
    operation_line (address + address_step op) (line +ℤ line_step op) op
    ++ operation_lines (address + address_step op) (line +ℤ line_step op) ops

-- the line of the name of a parameter
unfoldable pub parameter_name_line : Option Text → List ℕ
parameter_name_line name = codes "      parameter " ++ (text_or_dash quoted name ++ codes "\n")

-- the lines of a debug program
unfoldable pub debug_lines : Debug → List ℕ
debug_lines d = count_text (codes "    line-start ") d.line_start ++ (codes "\n"
    ++ (flat_map parameter_name_line d.parameter_names ++ operation_lines 0 (pos d.line_start) d.operations))

-- ---- code

-- the lines of the code of a method
unfoldable pub full_code_lines : List ℕ → Code → List ℕ
full_code_lines method c =
    counts_line c
    ++ (full_piece_lines method 0 c.pieces ++ (flat_map try_lines c.tries ++ option_map_or debug_lines c.debug []))

-- ---- values and annotations

abbrev mutual
  -- a value; floats are their bits
  pub value_text : Value → List ℕ
  value_text (ByteValue z) = codes "byte " ++ literal_text z
  value_text (ShortValue z) = codes "short " ++ literal_text z
  value_text (CharValue u) = codes "char " ++ place_text u
  value_text (IntValue z) = codes "int " ++ literal_text z
  value_text (LongValue z) = codes "long " ++ literal_text z
  value_text (FloatValue bits) = codes "float-bits " ++ place_text bits
  value_text (DoubleValue bits) = codes "double-bits " ++ place_text bits
  value_text (StringValue s) = codes "string " ++ quoted s
  value_text (TypeValue t) = codes "type " ++ shown t
  value_text (FieldValue f) = codes "field " ++ symbol_text plain (FieldSymbol f)
  value_text (MethodValue m) = codes "method " ++ symbol_text plain (MethodSymbol m)
  value_text (EnumValue f) = codes "enum " ++ symbol_text plain (FieldSymbol f)
  value_text (ArrayValue vs) = codes "array {" ++ values_text vs
  value_text (AnnotationValue t es) = codes "annotation " ++ (shown t ++ (codes " {" ++ elements_text es))
  value_text NullValue = codes "null"
  value_text (BooleanValue is) = if is then codes "true" else codes "false"

  -- values, each after a blank, and the bracket after them
  pub values_text : Values → List ℕ
  values_text NoValues = codes " }"
  values_text (ThenValue v vs) = codes " " ++ (value_text v ++ values_text vs)

  -- elements, each after a blank, and the bracket after them
  pub elements_text : Elements → List ℕ
  elements_text NoElements = codes " }"
  elements_text (ThenElement name v es) = codes " " ++ (plain name ++ (codes "=" ++ (value_text v ++ elements_text es)))

-- a visibility, as the page names it
abbrev pub visibility_text : ℕ → List ℕ
visibility_text visibility =
    if visibility == 0 then codes "build" else (if visibility == 1 then codes "runtime" else codes "system")

-- the line of an annotation, after these blanks
unfoldable pub annotation_line : List ℕ → Annotation → List ℕ
annotation_line blanks a =
    blanks
    ++ (codes "annotation "
    ++ (visibility_text a.visibility
    ++ (codes " " ++ (shown a.type ++ (codes " {" ++ (elements_text a.elements ++ codes "\n"))))))

-- the lines of a set
abbrev pub set_lines : List ℕ → AnnotationSet → List ℕ
set_lines blanks set = flat_map (annotation_line blanks) set

-- the lines of the sets of parameters, the first of this number
abbrev pub parameter_lines : ℕ → List AnnotationSet → List ℕ
parameter_lines i [] = []
parameter_lines i (set ∷ sets) =
    count_text (codes "    parameter ") i
    ++ (codes "\n" ++ (set_lines (codes "      ") set ++ parameter_lines (i + 1) sets))

-- ---- classes

-- the lines of a field after these words, with its value if it has one
unfoldable pub full_field_lines : List ℕ → FieldDef → Option Value → List ℕ
full_field_lines words f value =
    words ++ (own_field_text plain f.name f.type ++ (codes " flags=" ++ (flags_text OfField f.flags
    ++ (option_map_or (λ v. codes " value=" ++ value_text v) value []
    ++ (codes "\n" ++ set_lines (codes "    ") f.annotations)))))

-- the lines of static fields, of which the first have these values
abbrev pub static_field_lines : List FieldDef → Values → List ℕ
static_field_lines [] vs = []
static_field_lines (f ∷ fs) NoValues =
    full_field_lines (codes "  static-field ") f None ++ static_field_lines fs NoValues
static_field_lines (f ∷ fs) (ThenValue v vs) =
    full_field_lines (codes "  static-field ") f (Some v) ++ static_field_lines fs vs

-- the lines of an instance field
abbrev pub instance_field_lines : FieldDef → List ℕ
instance_field_lines f = full_field_lines (codes "  instance-field ") f None

-- the lines of a method of a class after these words
unfoldable pub full_method_lines : Text → List ℕ → MethodDef → List ℕ
full_method_lines class words m =
    words ++ (own_method_text plain m.name m.proto ++ (codes " flags=" ++ (flags_text OfMethod m.flags ++ (codes "\n"
    ++ (set_lines (codes "    ") m.annotations ++ (parameter_lines 0 m.parameter_annotations
    ++ option_map_or
    (full_code_lines (symbol_text plain (MethodSymbol (record { class = class; name = m.name; proto = m.proto }))))
    m.code []))))))

-- the lines of a class
unfoldable pub full_class_lines : Definition → List ℕ
full_class_lines d =
    own_line d
    ++ (flat_map interface_line d.1.interfaces
    ++ (option_map_or source_line d.1.source [] ++ (set_lines (codes "  ") d.1.annotations
    ++ (static_field_lines d.1.static_fields d.1.static_values ++ (flat_map instance_field_lines d.1.instance_fields
    ++ (flat_map (full_method_lines d.0 (codes "  direct-method ")) d.1.direct_methods
    ++ flat_map (full_method_lines d.0 (codes "  virtual-method ")) d.1.virtual_methods))))))

-- the full listing of the classes that the flags choose, in the order of a canonical file
unfoldable pub full_listing_of : List Bool → Collection → List ℕ
full_listing_of flags K = flat_map full_class_lines (chosen flags (in_class_order (definitions K)))
