-- Pieces as they are put.
use Rattle.std.specs.Prelude.{ℕ, List, Result}
use Rattle.std.specs.Global.{Vec}
use Rattle.std.specs.List.{flat_map}
use Rattle.dexspec.specs.Bytes.{ushort}
use Rattle.dexspec.specs.Mentions.{Mentions}
use Rattle.dexspec.specs.Pieces.{Piece}
use Rattle.dexspec.specs.Spellings.{piece_units}
use Rattle.dexspec.specs.internal.Writing.{Puts}
use Rattle.dexinsn.specs.Numbered.{NumberedPiece, Denote}

-- what is put are the units of the symbolic pieces that the numbered ones denote
abbrev pub PutsDenoted : {T E : Type 0} → Mentions → List NumberedPiece → Vec ℕ → Vec ℕ → Result T E → Type 0
PutsDenoted m ps old new r =
    (symbolic : List Piece) → Denote m ps symbolic
    → Puts (flat_map ushort (flat_map (piece_units m) symbolic)) old new r
