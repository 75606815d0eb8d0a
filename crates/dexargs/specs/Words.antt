-- What the arguments of the command line ask for.
use Rattle.std.specs.Prelude.{◌≡◌, ◌<◌, ◌≤◌, ◌≢◌, ℕ, List, Option, IfSome, codes, string_bytes, vec_len}
use Rattle.dexspec.specs.Merging.{Caps, AreCaps}
use Rattle.dexargs.specs.declared.lists.Ending.{Ending}
use Rattle.dexargs.specs.declared.words.Job.{Job}
use Rattle.dexargs.specs.declared.words.Job.TheVariants.{Check, Dump, DumpClasses, Normalise, Merge, KeepChecking}
use Rattle.dexargs.specs.declared.words.Job.TheVariants.{Digest, Conflicts, Diff, Count, CountEach, CountPackages}
use Rattle.dexargs.specs.declared.words.Job.TheVariants.{Repair}
use Rattle.dexargs.specs.declared.words.Placing.{Placing}
use Rattle.dexargs.specs.declared.words.Placing.TheVariants.{InPlace, Atomic}

-- what is moved to its name is not standard output
abbrev pub IsSoundOut : List ℕ → Placing → Type 0
IsSoundOut out InPlace = Unit {0}
IsSoundOut out Atomic = out ≢ codes "-"

-- a merge has one file or more; its fan, if any, is from 2 to 65535; its caps are at most the greatest
pub record IsSoundMerge (out : List ℕ) (placing : Placing) (files : ℕ) (fan : Option ℕ) (caps : Caps) : Type 0 where
  pub placed : IsSoundOut out placing
  pub some : 0 < files
  pub least : IfSome fan (λ n. 2 ≤ n)
  pub most : IfSome fan (λ n. n ≤ 65535)
  pub capped : AreCaps caps

-- a command over files has one file or more, and one over classes one class or more; a comparison of old and new files
-- has one or more of each
abbrev pub IsSound : Job → Type 0
IsSound (Check ending files) = 0 < vec_len files
IsSound (Dump full file) = Unit {0}
IsSound (DumpClasses full file classes) = 0 < vec_len classes
IsSound (Normalise file out placing) = IsSoundOut (string_bytes out) placing
IsSound (Merge out placing fan caps strip files) = IsSoundMerge (string_bytes out) placing (vec_len files) fan caps
IsSound (KeepChecking ending files) = 0 < vec_len files
IsSound (Digest ending strip files) = 0 < vec_len files
IsSound (Conflicts ending strip files) = 0 < vec_len files
IsSound (Diff old strip files) = (0 < old) × (old < vec_len files)
IsSound (Count files) = 0 < vec_len files
IsSound (CountEach ending files) = 0 < vec_len files
IsSound (CountPackages files) = 0 < vec_len files
IsSound (Repair file out placing) = IsSoundOut (string_bytes out) placing

-- where the lines of the job have names, these end as names of lists do
abbrev pub EndsNames : Ending → Job → Type 0
EndsNames ending (Check ends files) = ends ≡ ending
EndsNames ending (Dump full file) = Unit {0}
EndsNames ending (DumpClasses full file classes) = Unit {0}
EndsNames ending (Normalise file out placing) = Unit {0}
EndsNames ending (Merge out placing fan caps strip files) = Unit {0}
EndsNames ending (KeepChecking ends files) = ends ≡ ending
EndsNames ending (Digest ends strip files) = ends ≡ ending
EndsNames ending (Conflicts ends strip files) = ends ≡ ending
EndsNames ending (Diff old strip files) = Unit {0}
EndsNames ending (Count files) = Unit {0}
EndsNames ending (CountEach ends files) = ends ≡ ending
EndsNames ending (CountPackages files) = Unit {0}
EndsNames ending (Repair file out placing) = Unit {0}
