-- Symbols, instructions and code by their numbers.
use Rattle.std.specs.Prelude.{ℕ, ◌<◌, List, [], ◌∷◌, ◌++◌, codes, IfSome, Option, Some, None, slice_index_or}
use Rattle.std.specs.Borrow.{Bor}
use Rattle.dexspec.specs.Texts.{Text}
use Rattle.dexspec.specs.Values.{Values, NoValues, ThenValue}
use Rattle.dexspec.specs.Values as values
use Rattle.dexspec.specs.Classes.{FieldDef}
use Rattle.dexval.specs.declared.value.Value.{Value}
use Rattle.dexval.specs.Code.{value_of}
use Rattle.dexval.specs.Numbered.{value_in}
use Rattle.dexspec.specs.Symbols.{Proto}
use Rattle.dexspec.specs.Mentions.{Mentions}
use Rattle.dexpool.specs.Pools.{count_of}
use Rattle.dexpool.specs.declared.symbols.SymbolKind.{SymbolKind}
use Rattle.dexinsn.specs.declared.listing.Piece.{Piece}
use Rattle.dexinsn.specs.declared.listing.PieceKind.{PieceKind}
use Rattle.dexinsn.specs.declared.listing.PieceKind.TheVariants as kinds
use Rattle.dexinsn.specs.Opcode.{mnemonic_of}
use Rattle.dexpool.specs.NumberedSymbols.{symbol_at}
use Rattle.dexlisting.specs.Listing.{symbol_text}
use Rattle.dexlisting.specs.FullListing.{plain, full_field_lines}
use Rattle.dexlisting.specs.declared.names.Names.{Names}
use Rattle.dexlisting.specs.declared.names.Names.TheVariants as names
use Rattle.dexout.specs.Printed.{shown, count_text, place_text}

-- the prototype of a number
abbrev pub proto_at : Mentions → ℕ → Proto
proto_at m i = slice_index_or m.protos i (record { return_type = []; parameters = [] })

-- the number of an instruction's symbol, if there is one, is that of a symbol of its kind
abbrev pub IsKnownKind : Mentions → PieceKind → Type 0
IsKnownKind m (kinds.Instruction op symbol) = IfSome symbol (λ s. s.1 < count_of s.0 m)
IsKnownKind m _ = Unit {0}

-- the name of a member in a form
abbrev pub name_text : Names → Text → List ℕ
name_text names.Shown = shown
name_text names.Plain = plain

-- the symbol of an instruction after a space, if it has one
abbrev pub named_text : Mentions → Option (SymbolKind × ℕ) → List ℕ
named_text m None = []
named_text m (Some s) = codes " " ++ symbol_text shown (symbol_at m s.0 s.1)

-- what an instruction or payload is
abbrev pub kind_text : Mentions → PieceKind → List ℕ
kind_text m (kinds.Instruction op symbol) = mnemonic_of op ++ named_text m symbol
kind_text m (kinds.PackedSwitch size) = count_text (codes "packed-switch-payload size=") size
kind_text m (kinds.SparseSwitch size) = count_text (codes "sparse-switch-payload size=") size
kind_text m (kinds.ArrayData width size) =
    count_text (codes "fill-array-data-payload width=") width ++ count_text (codes " size=") size

-- its line
unfoldable pub listed_line : Mentions → Piece → List ℕ
listed_line m p = codes "    " ++ (place_text p.unit ++ (codes ": " ++ (kind_text m p.kind ++ codes "\n")))

-- ---- fields

-- the value that a number of the code means
abbrev pub meant_value : Mentions → Bor Value → values.Value
meant_value m v = value_in m (value_of v.now)

-- the lines of fields after these words, of which the first have these values
abbrev pub field_lines : List ℕ → List FieldDef → Values → List ℕ
field_lines words [] vs = []
field_lines words (f ∷ fs) NoValues = full_field_lines words f None ++ field_lines words fs NoValues
field_lines words (f ∷ fs) (ThenValue v vs) = full_field_lines words f (Some v) ++ field_lines words fs vs
