-- Pieces as a listing shows them.
use Rattle.std.specs.Prelude.{◌≡◌, ℕ, ◌+◌, ◌^◌, ◌<◌, ◌≤◌, ◌==◌, if◌then◌else◌, List, [], ◌∷◌, length, drop, map}
use Rattle.std.specs.Prelude.{slice_index, Option, Some, None}
use Rattle.std.specs.Option.{option_map}
use Rattle.dexspec.specs.Symbols.{Pool}
use Rattle.dexspec.specs.Pieces.{AreCut, cut_units, low_byte, is_payload_ident, packed_switch_ident}
use Rattle.dexspec.specs.Pieces.{sparse_switch_ident, element_width, element_count}
use Rattle.dexpool.specs.declared.symbols.SymbolKind.{SymbolKind}
use Rattle.dexinsn.specs.declared.pieces.Index.{Index}
use Rattle.dexinsn.specs.declared.listing.Piece.{Piece}
use Rattle.dexinsn.specs.declared.listing.PieceKind.{PieceKind}
use Rattle.dexinsn.specs.declared.listing.PieceKind.TheVariants as kinds
use Rattle.dexinsn.specs.Numbered.{NumberedPiece, Instruction, Payload, kind_in, kind_of_pool}
use Rattle.dexinsn.specs.Stored.{cuts_from, first_number, pieces_with, index_places}

-- ---- by the pieces

-- the units of a piece, those of its index put to zero
abbrev pub units_of : NumberedPiece → List ℕ
units_of (Instruction us n) = us
units_of (Payload us) = us

-- of a payload its size, and of array data also the width of an element
abbrev pub payload_shown : List ℕ → PieceKind
payload_shown us =
    if slice_index us 0 == packed_switch_ident then kinds.PackedSwitch (slice_index us 1)
    else (if slice_index us 0 == sparse_switch_ident then kinds.SparseSwitch (slice_index us 1)
    else kinds.ArrayData (element_width us) (element_count us))

-- of an instruction its opcode and its symbol
abbrev pub kind_of : NumberedPiece → PieceKind
kind_of (Instruction us n) = kinds.Instruction (low_byte (slice_index us 0)) (option_map (λ i. (kind_in us, i)) n)
kind_of (Payload us) = payload_shown us

-- the pieces in their order, the first at a unit
abbrev pub listed : ℕ → List NumberedPiece → List Piece
listed at [] = []
listed at (p ∷ ps) =
    record { unit = at; units = length (units_of p); kind = kind_of p } ∷ listed (at + length (units_of p)) ps

-- ---- by the units and the indices

-- the symbol of the first index, where there is a pool
abbrev pub symbol_by : Option Pool → List Index → Option (SymbolKind × ℕ)
symbol_by None is = None
symbol_by (Some pool) is = option_map (λ n. (kind_of_pool pool, n)) (first_number is)

-- what is shown of the first piece, if this is its symbol
abbrev pub kind_from : List ℕ → Option (SymbolKind × ℕ) → PieceKind
kind_from us symbol =
    if is_payload_ident (slice_index us 0) then payload_shown us
    else kinds.Instruction (low_byte (slice_index us 0)) symbol

-- the pieces from a unit on, with these indices
unfoldable pub listing : List ℕ → ℕ → List Index → List Piece
listing us at is = listed at (pieces_with (map (cut_units us) (cuts_from (length us) at (drop at us))) is)

-- the units from one on are cut to their end, and there is an index for each instruction that has one
pub record IsListing (us : List ℕ) (at : ℕ) (is : List Index) : Type 0 where
  pub few : length us < 2 ^ 32
  pub within : at ≤ length us
  pub cut : AreCut at (drop at us) (cuts_from (length us) at (drop at us)) []
  pub places : map (λ i. i.unit) is ≡ index_places at (map (cut_units us) (cuts_from (length us) at (drop at us)))

-- there is a first piece, and what is after it can be listed
pub record ListsFirst (us : List ℕ) (at : ℕ) (is : List Index) (piece : Piece) (left : List Index) : Type 0 where
  pub first : listing us at is ≡ piece ∷ listing us (at + piece.units) left
  pub later : IsListing us (at + piece.units) left
