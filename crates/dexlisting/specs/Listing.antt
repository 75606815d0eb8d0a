-- The listing that `dump` writes. This project's rules, but for the mnemonics, which are those of the page "Dalvik
-- bytecode".
use Rattle.std.specs.Prelude.{ℕ, ◌+◌, ◌==◌, Bool, if◌then◌else◌, List, [], ◌∷◌, ◌++◌, length, slice_index, Some, None}
use Rattle.std.specs.Prelude.{codes}
use Rattle.std.specs.List.{flat_map}
use Rattle.std.specs.Option.{option_map_or}
use Rattle.dexspec.specs.Texts.{Text}
use Rattle.dexspec.specs.Symbols.{Proto, Field, Method, Symbol, TextSymbol, TypeSymbol, ProtoSymbol, FieldSymbol}
use Rattle.dexspec.specs.Symbols.{MethodSymbol}
use Rattle.dexspec.specs.Opcodes.{opcode_of}
use Rattle.dexspec.specs.Pieces.{Piece, Instruction, Payload, units_of, low_byte, packed_switch_ident}
use Rattle.dexspec.specs.Pieces.{sparse_switch_ident, element_width, element_count}
use Rattle.dexspec.specs.Code.{Code}
use Rattle.dexspec.specs.Classes.{Definition, FieldDef, MethodDef}
use Rattle.dexspec.specs.Files.{Collection, definitions}
use Rattle.dexspec.specs.Depth.{in_class_order}
use Rattle.dexflags.specs.Flags.{OfClass, OfField, OfMethod, flags_text}
use Rattle.dexout.specs.Printed.{shown, quoted, count_text, place_text}

-- ---- symbols

-- (PARAMETERS)RETURN
abbrev pub proto_text : Proto → List ℕ
proto_text p = codes "(" ++ (flat_map shown p.parameters ++ (codes ")" ++ shown p.return_type))

-- NAME:TYPE, the name of a member in the form of `names`
abbrev pub own_field_text : (Text → List ℕ) → Text → Text → List ℕ
own_field_text names name type = names name ++ (codes ":" ++ shown type)

-- NAME(PARAMETERS)RETURN
abbrev pub own_method_text : (Text → List ℕ) → Text → Proto → List ℕ
own_method_text names name proto = names name ++ proto_text proto

-- a symbol
abbrev pub symbol_text : (Text → List ℕ) → Symbol → List ℕ
symbol_text names (TextSymbol s) = quoted s
symbol_text names (TypeSymbol t) = shown t
symbol_text names (ProtoSymbol p) = proto_text p
symbol_text names (FieldSymbol f) = shown f.class ++ (codes "->" ++ own_field_text names f.name f.type)
symbol_text names (MethodSymbol m) = shown m.class ++ (codes "->" ++ own_method_text names m.name m.proto)

-- ---- code

-- the mnemonic of the instruction that has these units
abbrev pub mnemonic_text : List ℕ → List ℕ
mnemonic_text us = option_map_or (λ op. op.mnemonic) (opcode_of (low_byte (slice_index us 0))) []

-- the payload that has these units
abbrev pub payload_text : List ℕ → List ℕ
payload_text us =
    if slice_index us 0 == packed_switch_ident then count_text (codes "packed-switch-payload size=") (slice_index us 1)
    else (if slice_index us 0 == sparse_switch_ident
    then count_text (codes "sparse-switch-payload size=") (slice_index us 1)
    else count_text (codes "fill-array-data-payload width=") (element_width us)
    ++ count_text (codes " size=") (element_count us))

-- what an instruction or payload is
abbrev pub piece_text : Piece → List ℕ
piece_text (Instruction us None) = mnemonic_text us
piece_text (Instruction us (Some s)) = mnemonic_text us ++ (codes " " ++ symbol_text shown s)
piece_text (Payload us) = payload_text us

-- a line for each of them, the first at a unit
abbrev pub piece_lines : ℕ → List Piece → List ℕ
piece_lines at [] = []
piece_lines at (p ∷ ps) =
    (codes "    " ++ (place_text at ++ (codes ": " ++ (piece_text p ++ codes "\n"))))
    ++ piece_lines (at + length (units_of p)) ps

-- the line of what code has how many of
unfoldable pub counts_line : Code → List ℕ
counts_line c =
    count_text (codes "    code registers=") c.registers
    ++ (count_text (codes " ins=") c.ins ++ (count_text (codes " outs=") c.outs
    ++ (count_text (codes " units=") (length (flat_map units_of c.pieces))
    ++ (count_text (codes " tries=") (length c.tries) ++ codes "\n"))))

-- the lines of code
abbrev pub code_lines : Code → List ℕ
code_lines c = counts_line c ++ piece_lines 0 c.pieces

-- ---- classes

-- the line of a field, after these words
unfoldable pub field_line : List ℕ → FieldDef → List ℕ
field_line words f =
    words ++ (own_field_text shown f.name f.type ++ (codes " flags=" ++ (flags_text OfField f.flags ++ codes "\n")))

-- the lines of a method, after these words
unfoldable pub method_lines : List ℕ → MethodDef → List ℕ
method_lines words m =
    words
    ++ (own_method_text shown m.name m.proto
    ++ (codes " flags=" ++ (flags_text OfMethod m.flags ++ (codes "\n" ++ option_map_or code_lines m.code []))))

-- the line with the name of a class, its flags and its superclass
unfoldable pub own_line : Definition → List ℕ
own_line d =
    codes "class "
    ++ (shown d.0
    ++ (codes " flags="
    ++ (flags_text OfClass d.1.flags
    ++ (codes " super=" ++ (option_map_or shown d.1.superclass (codes "-") ++ codes "\n")))))

-- the line of an interface
unfoldable pub interface_line : Text → List ℕ
interface_line type = codes "  interface " ++ (shown type ++ codes "\n")

-- the line of the source text
unfoldable pub source_line : Text → List ℕ
source_line text = codes "  source " ++ (quoted text ++ codes "\n")

-- the lines of a class
unfoldable pub class_lines : Definition → List ℕ
class_lines d =
    own_line d ++ (flat_map interface_line d.1.interfaces ++ (option_map_or source_line d.1.source []
    ++ (flat_map (field_line (codes "  static-field ")) d.1.static_fields
    ++ (flat_map (field_line (codes "  instance-field ")) d.1.instance_fields
    ++ (flat_map (method_lines (codes "  direct-method ")) d.1.direct_methods
    ++ flat_map (method_lines (codes "  virtual-method ")) d.1.virtual_methods)))))

-- the listing: the classes in the order of a canonical file
unfoldable pub listing : Collection → List ℕ
listing K = flat_map class_lines (in_class_order (definitions K))

-- ---- some of the classes

-- the list without the elements at whose place the flag is false; those past the end of the flags stay
abbrev pub chosen : {X : Type 0} → List Bool → List X → List X
chosen [] xs = xs
chosen (flag ∷ flags) [] = []
chosen (flag ∷ flags) (x ∷ xs) = if flag then x ∷ chosen flags xs else chosen flags xs

-- the listing of the classes that the flags choose: the lines of these, as they are in the listing of all
unfoldable pub listing_of : List Bool → Collection → List ℕ
listing_of flags K = flat_map class_lines (chosen flags (in_class_order (definitions K)))
