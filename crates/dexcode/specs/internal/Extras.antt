-- What code has besides its pieces.
use Rattle.std.specs.Prelude.{ℕ, ◌+◌, List, [], Option, Some, None as nothing, IfSome, unwrap_or}
use Rattle.std.specs.Option.{option_map}
use Rattle.dexspec.specs.Bytes.{uint_at}
use Rattle.dexspec.specs.Debug as symbolic
use Rattle.dexspec.specs.Lists.{OrNone, SomeAt}
use Rattle.dexspec.specs.Mentions.{Mentions}
use Rattle.dexinsn.specs.Numbered.{NumberedCode}
use Rattle.dexdebug.specs.Debug.{NumberedDebug}
use Rattle.dexdebug.specs.Meaning.{debug_in, IsKnownDebug}
use Rattle.dexcode.specs.declared.extras.Extras.{Extras}
use Rattle.dexcode.specs.declared.extras.Extras.TheVariants.{None, Debug, Tries}
use Rattle.dexcode.specs.Numbered.{NumberedTry}
use Rattle.dexcode.specs.Reading.{HasPieces, IsCodeAt}

-- the tries
abbrev pub tries_of : Extras → List NumberedTry
tries_of None = []
tries_of (Debug debug) = []
tries_of (Tries both) = both.value.tries

-- the debug program, if there is one
abbrev pub debug_of : Extras → Option NumberedDebug
debug_of None = nothing
debug_of (Debug debug) = Some debug.value
debug_of (Tries both) = option_map (λ debug. debug.value) both.value.debug

-- the debug program, if there is one, is that of the code_item at an offset, where symbols are numbered by their rows
pub record IsDebugOf (b : List ℕ) (off : ℕ) (m : Mentions) (d : Option NumberedDebug) : Type 0 where
  pub known : IfSome d (IsKnownDebug m)
  pub at : OrNone (SomeAt symbolic.DebugAt) nothing b (uint_at b (off + 8)) (option_map (debug_in m) d)

-- the pieces and the tries, if there are some, are those of the code_item at an offset
pub record ArePartsAt (b : List ℕ) (off : ℕ) (m : Mentions) (parts : NumberedCode × Option (List NumberedTry)) :
    Type 0 where
  pub pieces : HasPieces b off
  pub completed : (d : Option NumberedDebug) → IsDebugOf b off m d
      → IsCodeAt b off m (record { body = parts.0; tries = unwrap_or parts.1 []; debug = d })
