-- Which classes names choose.
use Rattle.std.specs.Prelude.{◌≡◌, ℕ, ◌<◌, Bool, true, false, List, length, map, take, All, slice_index_or}
use Rattle.dexspec.specs.Files.{Collection}
use Rattle.dexruns.specs.Listings.{is_among, printed_names, AreClassNames, IsFirstUnknown}
use Rattle.dexruns.specs.declared.dumping.Choice.{Choice}
use Rattle.dexruns.specs.declared.dumping.Choice.TheVariants.{Classes, NoClass}

-- the flag with this number is the first that is false
pub record IsFirstFalse (flags : List Bool) (i : ℕ) : Type 0 where
  pub within : i < length flags
  pub before : All (λ flag. flag ≡ true) (take i flags)
  pub is : slice_index_or flags i true ≡ false

-- each name is that of a class, and the flags say of each class whether it has one of them; or this is the number of
-- the first name that no class has
abbrev pub IsChoice : List (List ℕ) → Collection → Choice → Type 0
IsChoice names K (Classes flags) = AreClassNames names K × (flags.items ≡ map (is_among names) (printed_names K))
IsChoice names K (NoClass i) = IsFirstUnknown names K i
