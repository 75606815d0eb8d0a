-- The names of files in lines. This project's rules.
use Rattle.std.specs.Prelude.{◌≡◌, ◌<◌, ℕ, ◌==◌, ◌||◌, nat_lt, if◌then◌else◌, Bool, true, List, [], ◌∷◌, ◌++◌, length}
use Rattle.std.specs.Prelude.{take, slice_index}
use Rattle.std.specs.List.{flat_map}
use Rattle.dexstr.specs.Escapes.{escaped}
use Rattle.dexruns.specs.declared.names.NameForm.{NameForm}
use Rattle.dexruns.specs.declared.names.NameForm.TheVariants.{Escaped, Null}

-- a control character of ASCII
abbrev pub is_control : ℕ → Bool
is_control byte = nat_lt byte 0x20 || (byte == 0x7f)

-- a byte of a name: a control character by its number, as in a text that is shown, and any other as it is
abbrev pub name_byte : ℕ → List ℕ
name_byte byte = if is_control byte then escaped byte else byte ∷ []

-- a name with its control characters escaped, so that it ends no line
abbrev pub escaped_name : List ℕ → List ℕ
escaped_name name = flat_map name_byte name

-- a name as it is printed, and what follows it: with control characters escaped and then as the line goes on, or as it
-- is and then a zero byte in place of that
abbrev pub name_in_form : NameForm → List ℕ → List ℕ → List ℕ
name_in_form Escaped name after = escaped_name name ++ after
name_in_form Null name after = name ++ (0 ∷ [])

-- a control character is at the place, and none before it
pub record IsFirstControl (bytes : List ℕ) (place : ℕ) : Type 0 where
  pub within : place < length bytes
  pub control : is_control (slice_index bytes place) ≡ true
  pub plain : escaped_name (take place bytes) ≡ take place bytes
