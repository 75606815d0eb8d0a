-- What numbered code denotes under a numbering.
use Rattle.std.specs.Prelude.{◌≡◌, ◌<◌, length, map, All, IfSome}
use Rattle.std.specs.Option.{option_map}
use Rattle.dexspec.specs.Mentions.{Mentions}
use Rattle.dexspec.specs.Code.{Code}
use Rattle.dexpool.specs.Numberings.{AreRising}
use Rattle.dexinsn.specs.Numbered.{piece_in, IsKnownPiece}
use Rattle.dexdebug.specs.Meaning.{debug_in, IsKnownDebug}
use Rattle.dexcode.specs.Numbered.{NumberedTry, NumberedItem, try_meant}

-- the code with the symbols of its numbers
abbrev pub code_in : Mentions → NumberedItem → Code
code_in m c = record {
  registers = c.body.registers;
  ins = c.body.ins;
  outs = c.body.outs;
  pieces = map (piece_in m) c.body.pieces;
  tries = map (try_meant m) c.tries;
  debug = option_map (debug_in m) c.debug;
}

-- each type that the try catches has the number of one
abbrev pub IsKnownTry : Mentions → NumberedTry → Type 0
IsKnownTry m t = All (λ c. c.typ < length m.types) t.handler.catches

-- each number of the code is that of a symbol, of the kind that its place asks
pub record IsKnownCode (m : Mentions) (c : NumberedItem) : Type 0 where
  pub pieces_known : All (IsKnownPiece m) c.body.pieces
  pub tries_known : All (IsKnownTry m) c.tries
  pub debug_known : IfSome c.debug (IsKnownDebug m)

-- the numbers are those of symbols, and denote the code
pub record DenotesCode (m : Mentions) (c : NumberedItem) (x : Code) : Type 0 where
  pub known : IsKnownCode m c
  pub means : code_in m c ≡ x

-- it holds of each code that the numbers denote under a numbering whose symbols rise
abbrev pub ForDenoted : NumberedItem → (Mentions → Code → Type 0) → Type 0
ForDenoted c P = (m : Mentions) (x : Code) → AreRising m → DenotesCode m c x → P m x
