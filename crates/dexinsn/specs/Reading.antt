-- Pieces as they are read from a file.
use Rattle.std.specs.Prelude.{◌≡◌, ℕ, ◌+◌, ◌*◌, ◌%◌, ◌^◌, ◌<◌, pos, Bool, false, List, [], ◌∷◌, drop, All, MatchOption}
use Rattle.std.specs.Prelude.{Option, Some, None, slice_index_or}
use Rattle.dexspec.specs.Bytes.{uint_at}
use Rattle.dexspec.specs.Sections.{IsInData}
use Rattle.dexspec.specs.Symbols.{Pool}
use Rattle.dexspec.specs.Mentions.{Mentions}
use Rattle.dexspec.specs.Pieces.{Cut, Piece, IsCode, index_pool, index_in, is_instruction_start}
use Rattle.dexspec.specs.Code.{code_units, PiecesAt, RegistersAt}
use Rattle.dexpool.specs.declared.faults.ItemFault.{ItemFault}
use Rattle.dexpool.specs.declared.faults.ItemFault.TheVariants.{Refused, Memory}
use Rattle.dexpool.specs.Pools.{count_of}
use Rattle.dexinsn.specs.declared.pieces.Index.{Index}
use Rattle.dexinsn.specs.Stored.{FitsAt}
use Rattle.dexinsn.specs.Units.{units_in}
use Rattle.dexinsn.specs.Numbered.{NumberedPiece, Denote, kind_of_pool, NumberedCode}

-- the pieces are those of the code_item at an offset, where symbols are numbered by their rows
pub record ArePiecesAt (b : List ℕ) (off : ℕ) (m : Mentions) (ps : List NumberedPiece) : Type 0 where
  pub cuts : List Cut
  pub symbolic : List Piece
  pub at : PiecesAt b off cuts symbolic
  pub are_encoded : Denote m ps symbolic

-- the counts of registers are those of the code_item at an offset
abbrev pub HasRegistersAt : List ℕ → ℕ → NumberedCode → Type 0
HasRegistersAt b off code = RegistersAt b off code.registers code.ins code.outs

-- its pieces are those of the code_item
abbrev pub HasPiecesAt : List ℕ → ℕ → Mentions → NumberedCode → Type 0
HasPiecesAt b off m code = ArePiecesAt b off m code.pieces

-- there are no pieces at the offset; a failed allocation says nothing
abbrev pub IsPiecesFault : List ℕ → ℕ → ItemFault → Type 0
IsPiecesFault b off (Refused number) =
    (number ≡ 18) × ((cuts : List Cut) (ps : List Piece) → PiecesAt b off cuts ps → ⊥)
IsPiecesFault b off Memory = Unit {0}

-- there is room for the units of a code_item
pub record HasCodeRoom (b : List ℕ) (off : ℕ) : Type 0 where
  pub in_data : IsInData b off (16 + 2 * uint_at b (off + 12))
  pub aligned : off % 4 ≡ 0

-- the bytes are those of its units
pub record AreUnitsAt (b : List ℕ) (off : ℕ) (bytes : List ℕ) : Type 0 where
  pub room : HasCodeRoom b off
  pub units : units_in bytes ≡ code_units b off
  pub few : uint_at b (off + 12) < 2 ^ 32

-- the index that begins a list, if an instruction with an index begins with it
abbrev pub with_index_at : Option Pool → List ℕ → Cut → List Index → List Index
with_index_at None us c is = is
with_index_at (Some pool) us c is = record { unit = c.unit; number = index_in (drop c.unit us) } ∷ is

-- the indices of the pieces, as the units have them
abbrev pub indices_at : List ℕ → List Cut → List Index
indices_at us [] = []
indices_at us (c ∷ cs) = with_index_at (index_pool (drop c.unit us)) us c (indices_at us cs)

-- the index of the piece, if it has one, is below the number of symbols of its kind
abbrev pub IsInRange : List ℕ → Mentions → Cut → Type 0
IsInRange us m c =
    MatchOption (index_pool (drop c.unit us)) (Unit {0})
    (λ pool. index_in (drop c.unit us) < count_of (kind_of_pool pool) m)

-- these are the indices of the pieces, and they are in range
pub record AreIndicesOf (us : List ℕ) (m : Mentions) (cs : List Cut) (is : List Index) : Type 0 where
  pub are : is ≡ indices_at us cs
  pub in_range : All (IsInRange us m) cs
  pub fit : All (FitsAt us) is

-- the units are code, and these are the indices of its pieces, and in range
pub record AreCodeIndices (us : List ℕ) (m : Mentions) (is : List Index) : Type 0 where
  pub cuts : List Cut
  pub code : IsCode us cuts
  pub read : AreIndicesOf us m cuts is

-- the units are no code, or some index is out of range; a failed allocation says nothing
abbrev pub IsCodeFault : List ℕ → Mentions → ItemFault → Type 0
IsCodeFault us m (Refused number) = (number ≡ 18) × ((cuts : List Cut) → IsCode us cuts → All (IsInRange us m) cuts → ⊥)
IsCodeFault us m Memory = Unit {0}

-- ---- where instructions begin

-- for each unit of the code_item at an offset, whether an instruction begins there
abbrev pub AreStartsAt : List ℕ → ℕ → List Bool → Type 0
AreStartsAt b off starts =
    (cuts : List Cut) (ps : List Piece) (k : ℕ) → PiecesAt b off cuts ps
    → slice_index_or starts k false ≡ is_instruction_start (code_units b off) cuts (pos k)
