-- Whether the index of a piece fits its field. Source: "Dalvik executable instruction formats": an index has 16 bits,
-- that of const-string/jumbo 32.
use Rattle.std.specs.Prelude.{◌≡◌, ◌^◌, ◌<◌, false, Some}
use Rattle.dexspec.specs.Pieces.{Piece, Instruction, is_wide_index}
use Rattle.dexspec.specs.Mentions.{Mentions}
use Rattle.dexspec.specs.Spellings.{symbol_index}

-- an index in a field of 16 bits fits it
abbrev pub IndexFits : Mentions → Piece → Type 0
IndexFits m (Instruction us (Some s)) = is_wide_index us ≡ false → symbol_index m s < 2 ^ 16
IndexFits m _ = Unit {0}
