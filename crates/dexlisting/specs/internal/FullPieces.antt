-- Instructions and payloads in a full listing, by their numbers.
use Rattle.std.specs.Prelude.{ℕ, ◌+◌, ◌*◌, List, [], ◌++◌, codes, take, drop, Option, Some, None}
use Rattle.std.specs.Option.{option_map_or}
use Rattle.dexspec.specs.Mentions.{Mentions}
use Rattle.dexspec.specs.Opcodes.{opcode_of}
use Rattle.dexspec.specs.Pieces.{int_in, ints_in}
use Rattle.dexpool.specs.declared.symbols.SymbolKind.{SymbolKind}
use Rattle.dexinsn.specs.declared.listing.Piece.{Piece}
use Rattle.dexinsn.specs.declared.listing.PieceKind.{PieceKind}
use Rattle.dexinsn.specs.declared.listing.PieceKind.TheVariants as kinds
use Rattle.dexinsn.specs.Opcode.{mnemonic_of}
use Rattle.dexpool.specs.NumberedSymbols.{symbol_at}
use Rattle.dexout.specs.Printed.{count_text, place_text}
use Rattle.dexlisting.specs.Listing.{symbol_text}
use Rattle.dexlisting.specs.FullListing.{plain, operands_text, literal_text, offsets_text, keys_text, units_text}

-- mnemonic and operands of the instruction of an opcode at a unit, which has these units
abbrev pub opcode_text : ℕ → ℕ → List ℕ → List ℕ
opcode_text op at us = mnemonic_of op ++ option_map_or (λ o. operands_text o.format at us) (opcode_of op) []

-- the symbol of an instruction after its operands, if it has one
abbrev pub symbol_after : Mentions → Option (SymbolKind × ℕ) → List ℕ
symbol_after m None = []
symbol_after m (Some s) = codes ", " ++ symbol_text plain (symbol_at m s.0 s.1)

-- the first key of a packed switch of a size, and the distances of its targets
abbrev pub packed_entries : List ℕ → ℕ → List ℕ
packed_entries us size =
    codes " first=" ++ (literal_text (int_in us 2) ++ (codes " targets=" ++ offsets_text (ints_in us 4 size)))

-- the keys of a sparse switch of a size, and the distances of their targets
abbrev pub sparse_entries : List ℕ → ℕ → List ℕ
sparse_entries us size =
    codes " keys="
    ++ (keys_text (ints_in us 2 size) ++ (codes " targets=" ++ offsets_text (ints_in us (2 + 2 * size) size)))

-- what an instruction or payload at a unit is, which has these units
abbrev pub full_kind_text : Mentions → PieceKind → ℕ → List ℕ → List ℕ
full_kind_text m (kinds.Instruction op symbol) at us = opcode_text op at us ++ symbol_after m symbol
full_kind_text m (kinds.PackedSwitch size) at us =
    count_text (codes "packed-switch-payload size=") size ++ packed_entries us size
full_kind_text m (kinds.SparseSwitch size) at us =
    count_text (codes "sparse-switch-payload size=") size ++ sparse_entries us size
full_kind_text m (kinds.ArrayData width size) at us =
    count_text (codes "fill-array-data-payload width=") width ++ count_text (codes " size=") size

-- its line in the listing of a method that has all these units
unfoldable pub full_listed_line : Mentions → List ℕ → List ℕ → Piece → List ℕ
full_listed_line m method all p =
    codes "    " ++ (place_text p.unit ++ (codes ": " ++ (units_text (take p.units (drop p.unit all)) ++ (codes "| "
    ++ (full_kind_text m p.kind p.unit (take p.units (drop p.unit all)) ++ (codes "\t" ++ (method ++ codes "\n")))))))
