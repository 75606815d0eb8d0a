-- The debug programs of methods, some of which are known to be the same.
use Rattle.std.specs.Prelude.{◌≡◌, ℕ, ◌<◌, ◌≤◌, List, length, Option, None, slice_index_or}
use Rattle.std.specs.Option.{option_map_or}
use Rattle.dexdebug.specs.Debug.{NumberedDebug}
use Rattle.dexcode.specs.Numbered.{NumberedItem}
use Rattle.dexmembers.specs.Numbered.{NumberedMethod}

-- the debug program of code, if there is some and it has one
abbrev pub code_debug : Option NumberedItem → Option NumberedDebug
code_debug code = option_map_or (λ c. c.debug) code None

-- that of a method's code
abbrev pub debug_of : NumberedMethod → Option NumberedDebug
debug_of x = code_debug x.code

-- for each element there is a place, its own or one before it, whose element has the same value
pub record AreSameBefore {X Y : Type 0} (f : X → Y) (xs : List X) (places : List ℕ) : Type 0 where
  pub many : length places ≡ length xs
  pub before : (i : ℕ) → i < length xs → slice_index_or places i 0 ≤ i
  pub same : (i : ℕ) (d : X) → i < length xs
      → f (slice_index_or xs (slice_index_or places i 0) d) ≡ f (slice_index_or xs i d)
