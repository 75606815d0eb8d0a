-- The encodings of debug programs, one for each method that has one: how they are found.
use Rattle.std.specs.Prelude.{ℕ, List, ◌++◌, map, Option, Result, OnOk}
use Rattle.std.specs.List.{flat_map}
use Rattle.std.specs.Option.{option_map}
use Rattle.dexdebug.specs.Debug.{numbered_debug_bytes}
use Rattle.dexmembers.specs.Numbered.{NumberedMethod, methods_of}
use Rattle.dexmembers.specs.SharedDebugs.{debug_of}
use Rattle.dexclass.specs.Numbered.{NumberedClass}
use Rattle.dexlayout.specs.declared.bodies.Encodings.{Encodings}
use Rattle.dexlayout.specs.ItemKeys.{same_bytes}
use Rattle.dexlayout.specs.internal.Adding.{HasUses}

-- its encoding
abbrev pub debug_encoding : NumberedMethod → Option (List ℕ)
debug_encoding x = option_map numbered_debug_bytes (debug_of x)

-- those of methods
abbrev pub debug_encodings : List NumberedMethod → List (Option (List ℕ))
debug_encodings xs = map debug_encoding xs

-- those of the methods of classes
abbrev pub all_debug_encodings : List NumberedClass → List (Option (List ℕ))
all_debug_encodings cs = flat_map (λ c. debug_encodings (methods_of c.members)) cs

-- more encodings
abbrev pub AddsEncodings : {A E : Type 0} → Result A E → Encodings → Encodings → List (Option (List ℕ)) → Type 0
AddsEncodings result old new more =
    (uses : List (Option (List ℕ))) → HasUses same_bytes uses old.sharing
    → OnOk result (HasUses same_bytes (uses ++ more) new.sharing)
