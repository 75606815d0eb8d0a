-- Sets, lists of sets and directories that were checked, and their weights.
use Rattle.std.specs.Prelude.{◌≡◌, ℕ, ◌-◌, ◌^◌, min, List, Some, nat_eq}
use Rattle.std.specs.HashMap.{get}
use Rattle.dexspec.specs.Mentions.{Mentions}
use Rattle.dexval.specs.declared.directory_checking.CheckedSets.{CheckedSets}
use Rattle.dexval.specs.Directories.{IsRefListAt, directory_weight, set_weight_in, sets_weight_in}
use Rattle.dexval.specs.Numbered.{NumberedDirectory, directory_in}
use Rattle.dexval.specs.Reading.{IsSetAt, IsDirectoryAt}

-- an item that was read weighs `weight`, or 2^64 - 1 if it weighs more
pub record IsWeighed {X : Type 0} (Read : X → Type 0) (weighs : X → ℕ) (weight : ℕ) : Type 0 where
  pub item : X
  pub is_read : Read item
  pub weight_is : weight ≡ min (2 ^ 64 - 1) (weighs item)

-- each checked item is at its offset and has the recorded weight
pub record AreChecked (b : List ℕ) (m : Mentions) (checked : CheckedSets) : Type 0 where
  pub sets_checked : (off weight : ℕ) → get nat_eq checked.sets off ≡ Some weight
      → IsWeighed (IsSetAt b off m) (set_weight_in m) weight
  pub lists_checked : (off weight : ℕ) → get nat_eq checked.lists off ≡ Some weight
      → IsWeighed (IsRefListAt b off m) (sets_weight_in m) weight

-- an annotations_directory_item of that weight is at the offset
abbrev pub HasDirectoryOf : List ℕ → ℕ → Mentions → ℕ → Type 0
HasDirectoryOf b off m =
    IsWeighed (IsDirectoryAt b off m) (λ (d : NumberedDirectory). directory_weight (directory_in m d))
