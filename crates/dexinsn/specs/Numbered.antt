-- Pieces whose symbols are numbers: what they denote under a numbering, and what becomes of them when the numbers
-- change.
use Rattle.std.specs.Prelude.{◌≡◌, ℕ, ◌^◌, ◌<◌, if◌then◌else◌, List, [], ◌∷◌, map, All, Option, Some, None}
use Rattle.std.specs.Prelude.{slice_index_or, length}
use Rattle.std.specs.List.{flat_map}
use Rattle.std.specs.Option.{IsSome, option_map_or}
use Rattle.dexspec.specs.Bytes.{ushort}
use Rattle.dexspec.specs.Symbols.{Pool, StringPool, TypePool, ProtoPool, FieldPool, MethodPool}
use Rattle.dexspec.specs.Mentions.{Mentions}
use Rattle.dexspec.specs.Pieces.{Piece, index_pool, is_wide_index, with_index}
use Rattle.dexspec.specs.Pieces as symbolic
use Rattle.dexpool.specs.declared.symbols.SymbolKind.{SymbolKind}
use Rattle.dexpool.specs.declared.symbols.SymbolKind.TheVariants as kinds
use Rattle.dexpool.specs.Numberings.{Maps, image_of}
use Rattle.dexpool.specs.NumberedSymbols.{symbol_at}
use Rattle.dexpool.specs.Pools.{count_of}
use Rattle.dexpool.specs.Uses.{Use}

-- A piece of code: an instruction's units with those of its index put to zero, beside the number of the symbol that
-- the index names, if it has one; or the units of a payload.
pub data NumberedPiece : Type 0 where
  Instruction : (units : List ℕ) → (number : Option ℕ) → NumberedPiece
  Payload : (units : List ℕ) → NumberedPiece

-- Code: the counts of its registers, of those of arguments and of those of calls, and its pieces.
pub record NumberedCode : Type 0 where
  pub registers : ℕ
  pub ins : ℕ
  pub outs : ℕ
  pub pieces : List NumberedPiece

-- ---- the symbols that occur

-- the kind of symbols that a pool has
abbrev pub kind_of_pool : Pool → SymbolKind
kind_of_pool StringPool = kinds.Text
kind_of_pool TypePool = kinds.Typ
kind_of_pool ProtoPool = kinds.Proto
kind_of_pool FieldPool = kinds.Field
kind_of_pool MethodPool = kinds.Method

-- the kind of symbol that the index of an instruction names; a text for one without an index
abbrev pub kind_in : List ℕ → SymbolKind
kind_in us = option_map_or kind_of_pool (index_pool us) kinds.Text

-- the symbol of an instruction's index
abbrev pub piece_uses : NumberedPiece → List Use
piece_uses (Instruction us (Some n)) = record { kind = kind_in us; number = n } ∷ []
piece_uses _ = []

-- those of all pieces, in order
abbrev pub uses_of : List NumberedPiece → List Use
uses_of ps = flat_map piece_uses ps

-- the symbol at a place among them has this kind and this number
abbrev pub IsUseAt : List Use → ℕ → SymbolKind × ℕ → Type 0
IsUseAt us i symbol = (d : Use) → slice_index_or us i d ≡ record { kind = symbol.0; number = symbol.1 }

-- ---- what numbers denote

-- the piece with the symbol of its number, of the kind that its units name; of a text where they name none
abbrev pub piece_in : Mentions → NumberedPiece → Piece
piece_in m (Instruction us None) = symbolic.Instruction us None
piece_in m (Instruction us (Some n)) = symbolic.Instruction us (Some (symbol_at m (kind_in us) n))
piece_in m (Payload us) = symbolic.Payload us

-- an instruction with a number has an index in its units, and the number is that of a symbol of the index's kind
abbrev pub IsKnownPiece : Mentions → NumberedPiece → Type 0
IsKnownPiece m (Instruction us (Some n)) = IsSome (index_pool us) × (n < count_of (kind_in us) m)
IsKnownPiece m _ = Unit {0}

-- the numbers are those of symbols, and denote the pieces
pub record Denote (m : Mentions) (ps : List NumberedPiece) (qs : List Piece) : Type 0 where
  pub known : All (IsKnownPiece m) ps
  pub mean : map (piece_in m) ps ≡ qs

-- ---- places of numbers

-- an index that is not wide is below this number, and a wide one below that of 32 bits
abbrev pub index_room : List ℕ → ℕ
index_room us = if is_wide_index us then 2 ^ 32 else 2 ^ 16

-- the number, if there is one, fits its place
abbrev pub FitsPlace : NumberedPiece → Type 0
FitsPlace (Instruction us (Some n)) = n < index_room us
FitsPlace _ = Unit {0}

-- each number fits its place
abbrev pub FitPlaces : List NumberedPiece → Type 0
FitPlaces ps = All FitsPlace ps

-- the units of the piece, its number put in
abbrev pub numbered_units : NumberedPiece → List ℕ
numbered_units (Instruction us None) = us
numbered_units (Instruction us (Some n)) = with_index n us
numbered_units (Payload us) = us

-- how many units the pieces have
abbrev pub unit_count : List NumberedPiece → ℕ
unit_count ps = length (flat_map numbered_units ps)

-- the bytes of the pieces, their numbers put in
unfoldable pub numbered_bytes : List NumberedPiece → List ℕ
numbered_bytes ps = flat_map ushort (flat_map numbered_units ps)

-- ---- other numbers

-- the number, if there is one, has an image
abbrev pub HasImage : Maps → NumberedPiece → Type 0
HasImage r (Instruction us (Some n)) = IsSome (image_of r (kind_in us) n)
HasImage r _ = Unit {0}

-- it has an image that fits the place
abbrev pub HasPlace : Maps → NumberedPiece → Type 0
HasPlace r (Instruction us (Some n)) = (j : ℕ) × (image_of r (kind_in us) n ≡ Some j) × (j < index_room us)
HasPlace r _ = Unit {0}

-- the piece with the image of its number
abbrev pub renumbered_piece : Maps → NumberedPiece → NumberedPiece
renumbered_piece r (Instruction us (Some n)) = Instruction us (image_of r (kind_in us) n)
renumbered_piece r p = p

-- the code with the images of its numbers
abbrev pub renumbered : Maps → NumberedCode → NumberedCode
renumbered r c =
    record { registers = c.registers; ins = c.ins; outs = c.outs; pieces = map (renumbered_piece r) c.pieces }
