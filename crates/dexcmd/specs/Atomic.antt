-- The states of a file that appears under its name whole, or not at all.
use Rattle.std.specs.Prelude.{◌≡◌, ◌++◌, ℕ, Bool, true, false, List, Option, Result, codes, decimal, string_bytes}
use Rattle.std.specs.Io.KnownBytes.{WriteAppends}
use Rattle.dexcmd.specs.declared.atomic.AtomicFile.{AtomicFile}
use Rattle.dexcmd.specs.declared.atomic.AtomicStage.{AtomicStage}
use Rattle.dexcmd.specs.declared.atomic.AtomicStage.TheVariants.{Unmade, Made, Placed, Failed}

-- the path of the file
abbrev pub atomic_path : {R F D : Type 0} → AtomicFile R F D → List ℕ
atomic_path file = file.path.now

-- the temporary name of this number: it is longer than the path, so it is another
abbrev pub temporary_name : List ℕ → ℕ → List ℕ
temporary_name path number = path ++ (codes ".dexkit-" ++ decimal number)

-- nothing is made
abbrev pub IsUnmade : {R F D : Type 0} → AtomicFile R F D → Type 0
IsUnmade file = file.stage ≡ Unmade

-- the temporary name is that of a number
pub record IsNamed {R F D : Type 0} (file : AtomicFile R F D) : Type 0 where
  pub number : ℕ
  pub is : string_bytes file.temporary ≡ temporary_name file.path.now number

-- it is made, as this file
abbrev pub IsMadeAs : {R F D : Type 0} → F → AtomicFile R F D → Type 0
IsMadeAs made file = file.stage ≡ Made made

-- it is made under a temporary name
pub record IsMade {R F D : Type 0} (file : AtomicFile R F D) : Type 0 where
  pub made : F
  pub is : IsMadeAs made file
  pub named : IsNamed file

-- whether it is moved to its path
abbrev pub is_stage_placed : {F : Type 0} → AtomicStage F → Bool
is_stage_placed Unmade = false
is_stage_placed (Made file) = false
is_stage_placed Placed = true
is_stage_placed Failed = false

-- it is moved to its path
abbrev pub IsPlacedFile : {R F D : Type 0} → AtomicFile R F D → Type 0
IsPlacedFile file = file.stage ≡ Placed

-- nothing is moved to its path
abbrev pub IsUnplaced : {R F D : Type 0} → AtomicFile R F D → Type 0
IsUnplaced file = file.stage ≡ Placed → ⊥

-- a write to a file that is made returned what a write to the file returned, and its names are as they were
pub record IsPutInto {R F D E : Type 0} (contents : F → Option (List ℕ)) (made : F) (old new : AtomicFile R F D)
    (result : Result ℕ E) (buf : List ℕ) : Type 0 where
  pub left : F
  pub is : IsMadeAs left new
  pub temporary : new.temporary ≡ old.temporary
  pub written : WriteAppends (contents made) (contents left) result buf
