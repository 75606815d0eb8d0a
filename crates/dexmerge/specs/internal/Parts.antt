-- The files that the parts of a plan name, and what is left of files.
use Rattle.std.specs.Prelude.{◌≡◌, ◌⊎◌, ℕ, ◌<◌, List, [], map, length, All, slice_index_or}
use Rattle.std.specs.List.{flat_map}
use Rattle.dexspec.specs.Classes.{Definition}
use Rattle.dexspec.specs.Files.{Collection, definitions, AreWithin}
use Rattle.dexspec.specs.Merging.{Caps, Cause, IsCause, IsFirstCause, IsFlat, Plan, leaves}
use Rattle.dexmerge.specs.Faults.{planned}

-- the definitions of the file of a number
abbrev pub of_file : List Collection → ℕ → List Definition
of_file files number = slice_index_or (map definitions files) number []

-- the definitions of plans
abbrev pub of_plans : List Collection → List Plan → List Definition
of_plans files ps = flat_map (planned files) ps

-- the files that the plan names are there
abbrev pub AreKnown : List Collection → Plan → Type 0
AreKnown files p = All (λ i. i < length files) (leaves p)

-- of a file all is left, or nothing where its definitions are among those that were taken
abbrev pub IsLeft : List Definition → List Definition → List Definition → Type 0
IsLeft taken old new = (new ≡ old) ⊎ ((new ≡ []) × AreWithin old taken)

-- so it is of each file
pub record AreLeft (taken : List Definition) (old new : List Collection) : Type 0 where
  pub count : length new ≡ length old
  pub each : (i : ℕ) → IsLeft taken (of_file old i) (of_file new i)

-- the cause is true of the plan's files, and the first one where the plan is flat
pub record IsCauseOf (caps : Caps) (files : List Collection) (p : Plan) (cause : Cause) : Type 0 where
  pub holds : IsCause caps (planned files p) cause
  pub first : IsFlat p → IsFirstCause caps (planned files p) cause
