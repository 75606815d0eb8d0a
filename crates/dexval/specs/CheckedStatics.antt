-- Arrays of static values that were checked, and their shapes.
use Rattle.std.specs.Prelude.{◌≡◌, ℕ, List, Some, nat_eq}
use Rattle.std.specs.HashMap.{get}
use Rattle.dexspec.specs.Mentions.{Mentions}
use Rattle.dexval.specs.declared.checked_statics.CheckedStatics.{CheckedStatics}
use Rattle.dexval.specs.declared.value_checking.StaticsShape.{StaticsShape}
use Rattle.dexval.specs.Results.{HasStaticsShape}

-- each checked array is at its offset and has the recorded shape
abbrev pub AreCheckedStatics : List ℕ → Mentions → CheckedStatics → Type 0
AreCheckedStatics b m checked =
    (off : ℕ) (shape : StaticsShape) → get nat_eq checked.shapes off ≡ Some shape → HasStaticsShape b off m shape
