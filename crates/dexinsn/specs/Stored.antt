-- Pieces as they are stored: the units as bytes of the file, and beside them the number of each symbol with the unit
-- at which its instruction begins.
use Rattle.std.specs.Prelude.{◌≡◌, ℕ, zero, suc, ◌+◌, ◌-◌, ◌/◌, ◌%◌, ◌^◌, ◌<◌, ◌≤◌, Bool, false, if◌then◌else◌, List}
use Rattle.std.specs.Prelude.{[], ◌∷◌, ◌++◌, length, take, drop, map, All, slice_index, Option, Some, None, true}
use Rattle.std.specs.Prelude.{unwrap_or}
use Rattle.std.specs.Option.{option_map_or}
use Rattle.std.specs.List.{flat_map}
use Rattle.dexspec.specs.Symbols.{Pool}
use Rattle.dexspec.specs.Pieces.{Cut, AreCut, cut_units, piece_size, index_pool, is_payload_ident, is_wide_index}
use Rattle.dexspec.specs.Pieces.{with_index}
use Rattle.dexinsn.specs.declared.pieces.Index.{Index}
use Rattle.dexpool.specs.Uses.{Use}
use Rattle.dexinsn.specs.Numbered.{NumberedPiece, Instruction, Payload, kind_in, index_room}
use Rattle.dexpool.specs.Numberings.{Maps, image_of}

-- n pieces at most, cut from units of which the first is at a place
abbrev pub cuts_from : ℕ → ℕ → List ℕ → List Cut
cuts_from zero at us = []
cuts_from (suc n) at us =
    option_map_or (λ size. record { unit = at; units = size } ∷ cuts_from n (at + size) (drop size us))
    (piece_size at us) []

-- the pieces into which units are cut, up to where none begins
unfoldable pub cuts_in : List ℕ → List Cut
cuts_in us = cuts_from (length us) 0 us

-- the units of each
abbrev pub parts_in : List ℕ → List (List ℕ)
parts_in us = map (cut_units us) (cuts_in us)

-- the number of the first index
abbrev pub first_number : List Index → Option ℕ
first_number [] = None
first_number (i ∷ is) = Some i.number

-- the indices after the first
abbrev pub after_first : List Index → List Index
after_first [] = []
after_first (i ∷ is) = is

-- a piece of these units, which takes the first number if it has an index of a pool
abbrev pub piece_with : Option Pool → List ℕ → List Index → NumberedPiece
piece_with None xs is = if is_payload_ident (slice_index xs 0) then Payload xs else Instruction xs None
piece_with (Some pool) xs is = Instruction (with_index 0 xs) (first_number is)

-- the numbers that it leaves
abbrev pub left_by : Option Pool → List Index → List Index
left_by None is = is
left_by (Some pool) is = after_first is

-- pieces of these units, which take numbers in order
abbrev pub pieces_with : List (List ℕ) → List Index → List NumberedPiece
pieces_with [] is = []
pieces_with (xs ∷ parts) is = piece_with (index_pool xs) xs is ∷ pieces_with parts (left_by (index_pool xs) is)

-- a place before others, if there is a pool
abbrev pub with_place : Option Pool → ℕ → List ℕ → List ℕ
with_place None at places = places
with_place (Some pool) at places = at ∷ places

-- the units at which instructions with an index begin, where the first part is at a place
abbrev pub index_places : ℕ → List (List ℕ) → List ℕ
index_places at [] = []
index_places at (xs ∷ parts) = with_place (index_pool xs) at (index_places (at + length xs) parts)

-- the number fits its place
abbrev pub FitsAt : List ℕ → Index → Type 0
FitsAt us i = i.number < index_room (drop i.unit us)

-- the units are cut to their end, and there is a number that fits for each instruction with an index
pub record AreStored (us : List ℕ) (is : List Index) : Type 0 where
  pub few : length us < 2 ^ 32
  pub cut : AreCut 0 us (cuts_in us) []
  pub places : map (λ i. i.unit) is ≡ index_places 0 (parts_in us)
  pub fit : All (FitsAt us) is

-- ---- an index on its own

-- the symbol that it names
abbrev pub use_at : List ℕ → Index → Use
use_at us i = record { kind = kind_in (drop i.unit us); number = i.number }

-- the symbols that they all name
abbrev pub uses_at : List ℕ → List Index → List Use
uses_at us is = flat_map (λ i. use_at us i ∷ []) is

-- its number has an image that fits the place
abbrev pub HasPlaceAt : Maps → List ℕ → Index → Type 0
HasPlaceAt r us i =
    (j : ℕ) × (image_of r (kind_in (drop i.unit us)) i.number ≡ Some j) × (j < index_room (drop i.unit us))

-- the index with the image of its number
abbrev pub renumbered_index : Maps → List ℕ → Index → Index
renumbered_index r us i =
    record { unit = i.unit; number = unwrap_or (image_of r (kind_in (drop i.unit us)) i.number) 0 }

-- an instruction begins at the unit, with room for an index
pub record IsIndexed (us : List ℕ) (i : Index) : Type 0 where
  pub within : i.unit + 1 < length us
  pub wide : is_wide_index (drop i.unit us) ≡ true → i.unit + 2 < length us

-- ---- the units with the numbers put in

-- the units of an index
abbrev pub index_units : Bool → ℕ → List ℕ
index_units true n = n % 65536 ∷ n / 65536 ∷ []
index_units false n = n ∷ []

-- the unit after the index of the instruction at a unit
abbrev pub after_index : Bool → ℕ → ℕ
after_index true unit = unit + 3
after_index false unit = unit + 2

-- the units from a place on, with these numbers put in
abbrev pub spelled_from : List ℕ → ℕ → List Index → List ℕ
spelled_from us from [] = drop from us
spelled_from us from (i ∷ is) =
    take (i.unit + 1 - from) (drop from us)
    ++ (index_units (is_wide_index (drop i.unit us)) i.number
    ++ spelled_from us (after_index (is_wide_index (drop i.unit us)) i.unit) is)

-- the indices are one after the other, from a place on
abbrev pub Follow : List ℕ → ℕ → List Index → Type 0
Follow us from [] = from ≤ length us
Follow us from (i ∷ is) = (from ≤ i.unit) × Follow us (after_index (is_wide_index (drop i.unit us)) i.unit) is
