-- Units that are checked in one pass, with a bit for each unit.
use Rattle.std.specs.Prelude.{◌≡◌, ◌↔◌, ◌⊎◌, ℕ, ◌+◌, ◌*◌, ◌/◌, ◌^◌, ◌<◌, ◌≤◌, ◌||◌, pos, Bool, true, false, not, List}
use Rattle.std.specs.Prelude.{[], length, drop, slice_index, All, IsTrue, Option, Some, None}
use Rattle.std.specs.Option.{IsSome, option_map_or}
use Rattle.dexspec.specs.Mentions.{Mentions}
use Rattle.dexspec.specs.Opcodes.{Format, F10t, F20t, F21t, F22t, F30t, F31t, opcode_of}
use Rattle.dexspec.specs.Pieces.{Cut, AreCut, IsCode, has_right_targets, index_pool, is_payload_ident, low_byte}
use Rattle.dexspec.specs.Pieces.{piece_size}
use Rattle.dexinsn.specs.internal.LongSwitches.{HasBit}
use Rattle.dexinsn.specs.Stored.{FitsAt}
use Rattle.dexspec.specs.Bytes.{uint_at}
use Rattle.dexspec.specs.Code.{RegistersAt, code_units}
use Rattle.dexpool.specs.Pools.{count_of}
use Rattle.dexpool.specs.declared.symbols.SymbolKind.{SymbolKind}
use Rattle.dexpool.specs.declared.symbols.SymbolKind.TheVariants as kinds
use Rattle.dexinsn.specs.declared.piece_step.Limits.{Limits}
use Rattle.dexinsn.specs.declared.piece_step.Step.{Step}
use Rattle.dexinsn.specs.declared.pieces.Index.{Index}
use Rattle.dexinsn.specs.declared.shape.PiecesShape.{PiecesShape}
use Rattle.dexinsn.specs.Numbered.{NumberedPiece, numbered_bytes, uses_of}
use Rattle.dexinsn.specs.Reading.{ArePiecesAt, HasCodeRoom, IsInRange, indices_at, with_index_at}
use Rattle.dexinsn.specs.Split.{IsPieceAt, starts_with, units_of_all}

-- ---- tests of a first unit

-- an instruction of the format has a target
abbrev pub branches : Format → Bool
branches F10t = true
branches F20t = true
branches F21t = true
branches F22t = true
branches F30t = true
branches F31t = true
branches _ = false

-- an instruction that begins with this unit has a target
abbrev pub has_targets : ℕ → Bool
has_targets u = option_map_or (λ o. branches o.format) (opcode_of (low_byte u)) false

-- an instruction begins with this unit, and no payload
abbrev pub begins_instruction : ℕ → Bool
begins_instruction u = not (is_payload_ident u)

-- a payload begins with it, or an instruction that has a target
abbrev pub is_noted : ℕ → Bool
is_noted u = is_payload_ident u || has_targets u

-- ---- bits

-- the bits are those of these pieces whose first unit passes the test
pub record AreBitsOf (test : ℕ → Bool) (us : List ℕ) (cs : List Cut) (words : List ℕ) : Type 0 where
  pub room : length words ≡ length us / 64 + 2
  pub each : (k : ℕ) → HasBit words k ↔ (starts_with test us cs (pos k) ≡ true)
  pub inside : (k : ℕ) → HasBit words k → k < length us

-- each unit that has a bit begins a piece
pub record AreNoted (us : List ℕ) (words : List ℕ) : Type 0 where
  pub inside : (k : ℕ) → HasBit words k → k < length us
  pub pieces : (k : ℕ) → HasBit words k → IsSome (piece_size k (drop k us))

-- the answer says whether the piece at a unit has no target or a valid one
abbrev pub HasTargetsAt : List ℕ → List ℕ → List ℕ → ℕ → Bool → Type 0
HasTargetsAt us starts noted at answer =
    (cs : List Cut) (n : ℕ) → AreBitsOf begins_instruction us cs starts → AreBitsOf is_noted us cs noted
    → answer ≡ has_right_targets us cs (record { unit = at; units = n })

-- from a unit on no bit is set
abbrev pub HasNoBit : List ℕ → ℕ → Type 0
HasNoBit words from = (k : ℕ) → from ≤ k → HasBit words k → ⊥

-- from a unit on this is the first bit that is set
pub record IsNextBit (words : List ℕ) (from unit : ℕ) : Type 0 where
  pub following : from ≤ unit
  pub has : HasBit words unit
  pub first : (k : ℕ) → from ≤ k → k < unit → HasBit words k → ⊥

-- the answer says whether each piece has no target or a valid one
abbrev pub AreAllRight : List ℕ → List ℕ → List ℕ → Bool → Type 0
AreAllRight us starts noted true =
    (cs : List Cut) → All (IsPieceAt us) cs → AreBitsOf begins_instruction us cs starts → AreBitsOf is_noted us cs noted
    → All (λ c. IsTrue (has_right_targets us cs c)) cs
AreAllRight us starts noted false =
    (cs : List Cut) → AreBitsOf begins_instruction us cs starts → AreBitsOf is_noted us cs noted
    → All (λ c. IsTrue (has_right_targets us cs c)) cs → ⊥

-- ---- indices

-- no piece that begins at the unit is in range
abbrev pub IsOutside : List ℕ → Mentions → ℕ → Type 0
IsOutside us m at = (c : Cut) → c.unit ≡ at → IsInRange us m c → ⊥

-- each piece that begins at the unit is in range, and has `count` indices
pub record IndexCount (us : List ℕ) (m : Mentions) (at count : ℕ) : Type 0 where
  pub in_range : (n : ℕ) → IsInRange us m (record { unit = at; units = n })
  pub counted : (n : ℕ)
      → length (with_index_at (index_pool (drop at us)) us (record { unit = at; units = n }) []) ≡ count
  pub few : count ≤ 1
  pub fit : (n : ℕ) → All (FitsAt us) (with_index_at (index_pool (drop at us)) us (record { unit = at; units = n }) [])

-- ---- a piece at a time

-- how many indices there are of this kind: one or none
abbrev pub count_of_index : Option SymbolKind → ℕ
count_of_index None = 0
count_of_index (Some kind) = 1

-- the number below which an index of this kind is; where there is none, that below which a unit is
abbrev pub limit_of : Mentions → Option SymbolKind → ℕ
limit_of m None = 2 ^ 16
limit_of m (Some kind) = count_of kind m

-- where it is among the limits
abbrev pub slot_of : Option SymbolKind → ℕ
slot_of (Some kinds.Text) = 0
slot_of (Some kinds.Typ) = 1
slot_of (Some kinds.Proto) = 2
slot_of (Some kinds.Field) = 3
slot_of (Some kinds.Method) = 4
slot_of None = 5

-- the limits are those of the symbols
abbrev pub AreLimits : Mentions → Limits → Type 0
AreLimits m l = (index : Option SymbolKind) → slice_index l.0 (slot_of index) ≡ limit_of m index

-- what there is of the piece that begins at the unit, which is in range
pub record IsStep (us : List ℕ) (m : Mentions) (at : ℕ) (s : Step) : Type 0 where
  pub size : piece_size at (drop at us) ≡ Some s.units
  pub some : 0 < s.units
  pub index : IndexCount us m at s.indices
  pub start_is : s.is_instruction ≡ begins_instruction (slice_index us at)
  pub noted_is : s.is_noted ≡ is_noted (slice_index us at)

-- no piece that is in range begins there
abbrev pub HasNoStep : List ℕ → Mentions → ℕ → Type 0
HasNoStep us m at = (piece_size at (drop at us) ≡ None) ⊎ IsOutside us m at

-- ---- the pass

-- there is no code whose indices are in range
abbrev pub HasNoCode : List ℕ → Mentions → Type 0
HasNoCode us m = (cuts : List Cut) → IsCode us cuts → All (IsInRange us m) cuts → ⊥

-- the units up to one are cut into pieces in range, with this number of indices, and these are the bits of the pieces
pub record ArePassed (us : List ℕ) (m : Mentions) (starts noted : List ℕ) (at indices : ℕ) : Type 0 where
  pub cuts : List Cut
  pub cut : AreCut 0 us cuts (drop at us)
  pub reached : units_of_all cuts ≡ at
  pub within : at ≤ length us
  pub pieces : All (IsPieceAt us) cuts
  pub in_range : All (IsInRange us m) cuts
  pub counted : length (indices_at us cuts) ≡ indices
  pub few : indices ≤ at
  pub fit : All (FitsAt us) (indices_at us cuts)
  pub starts_are : AreBitsOf begins_instruction us cuts starts
  pub noted_are : AreBitsOf is_noted us cuts noted

-- the units are code whose indices are in range, and this is the number of indices
pub record IsChecked (us : List ℕ) (m : Mentions) (indices : ℕ) : Type 0 where
  pub cuts : List Cut
  pub code : IsCode us cuts
  pub in_range : All (IsInRange us m) cuts
  pub counted : length (indices_at us cuts) ≡ indices
  pub fit : All (FitsAt us) (indices_at us cuts)

-- the bits are those of the instructions of the code
abbrev pub AreCodeStarts : List ℕ → List ℕ → Type 0
AreCodeStarts us words = (cuts : List Cut) → IsCode us cuts → AreBitsOf begins_instruction us cuts words

-- the units up to one are cut into these pieces, and these are the bits of the pieces
pub record AreCutWith (us : List ℕ) (cs : List Cut) (starts noted : List ℕ) (at : ℕ) : Type 0 where
  pub cut : AreCut 0 us cs (drop at us)
  pub reached : units_of_all cs ≡ at
  pub within : at ≤ length us
  pub pieces : All (IsPieceAt us) cs
  pub starts_are : AreBitsOf begins_instruction us cs starts
  pub noted_are : AreBitsOf is_noted us cs noted

-- ---- the shape

-- a code_item's fixed part and units are at the offset, the units are code whose indices are in range, and that is its
-- shape
pub record IsShapeAt (b : List ℕ) (off : ℕ) (m : Mentions) (s : PiecesShape) : Type 0 where
  pub room : HasCodeRoom b off
  pub registers : RegistersAt b off s.registers s.ins s.outs
  pub units : uint_at b (off + 12) ≡ s.units
  pub few : s.units < 2 ^ 32
  pub checked : IsChecked (code_units b off) m s.indices

-- there are pieces at the offset, and that is their shape
pub record HasPiecesOf (b : List ℕ) (off : ℕ) (m : Mentions) (s : PiecesShape) : Type 0 where
  pub pieces : List NumberedPiece
  pub at : ArePiecesAt b off m pieces
  pub registers : RegistersAt b off s.registers s.ins s.outs
  pub units : length (numbered_bytes pieces) ≡ 2 * s.units
  pub indices : length (uses_of pieces) ≡ s.indices

-- ---- what is built

-- the units are cut to their end, and `count` instructions have an index, which fits its place
pub record HaveIndices (us : List ℕ) (count : ℕ) : Type 0 where
  pub cuts : List Cut
  pub cut : AreCut 0 us cuts []
  pub counted : length (indices_at us cuts) ≡ count

-- these are the indices of the pieces
abbrev pub AreTheIndices : List ℕ → List Index → Type 0
AreTheIndices us is = (cuts : List Cut) → AreCut 0 us cuts [] → is ≡ indices_at us cuts
