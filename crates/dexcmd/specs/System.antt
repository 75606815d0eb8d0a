-- The devices of the system by their names.
use Rattle.std.specs.Prelude.{◌≡◌, ◌≢◌, ℕ, ◌==◌, if◌then◌else◌, Bool, true, false, List, Option, Some, None, Result, Ok}
use Rattle.std.specs.Prelude.{Err, codes}
use Rattle.dexcmd.specs.declared.device_error.DeviceError.{DeviceError}
use Rattle.dexargs.specs.declared.words.Placing.{Placing}
use Rattle.dexargs.specs.declared.words.Placing.TheVariants.{InPlace, Atomic}
use Rattle.dexcmd.specs.declared.system.NamedInput.{NamedInput}
use Rattle.dexcmd.specs.declared.system.Origin.{Origin}
use Rattle.dexcmd.specs.declared.system.Origin.TheVariants as origin
use Rattle.dexcmd.specs.declared.system.Target.{Target}
use Rattle.dexcmd.specs.declared.system.Target.TheVariants as target
use Rattle.dexcmd.specs.declared.system.NamedOutput.{NamedOutput}
use Rattle.dexcmd.specs.declared.system.State.{State}
use Rattle.dexcmd.specs.declared.system.State.TheVariants.{Working, Broken, Closed}
use Rattle.dexcmd.specs.Files.{old_path, IsClosed, new_path, IsUnmade}
use Rattle.dexcmd.specs.Atomic.{atomic_path, is_stage_placed}
use Rattle.dexcmd.specs.Atomic as atomic

-- the name of standard input and of standard output
abbrev pub standard : List ℕ
standard = codes "-"

-- it is the file at the path, which is not opened, or standard input for `-`
abbrev pub IsNamedOrigin : {R F D : Type 0} → List ℕ → Origin R F D → Type 0
IsNamedOrigin name (origin.File file) = (old_path file ≡ name) × IsClosed file
IsNamedOrigin name (origin.Standard rt) = name ≡ standard

-- the error of a call is kept, if it failed, and none otherwise
abbrev pub KeepsError : {T E : Type 0} → (DeviceError → E → Type 0) → Result T E → Option DeviceError → Type 0
KeepsError IsOf (Ok x) kept = kept ≡ None
KeepsError IsOf (Err error) None = ⊥
KeepsError IsOf (Err error) (Some kept) = IsOf kept error

-- the error of the last read of an input, if it failed
abbrev pub read_error : {R F D : Type 0} → NamedInput R F D → Option DeviceError
read_error input = input.error

-- the input reads the file at the path, which is not opened, or standard input for `-`, and keeps no error
abbrev pub IsNamedInput : {R F D : Type 0} → List ℕ → NamedInput R F D → Type 0
IsNamedInput name input = IsNamedOrigin name input.origin × (read_error input ≡ None)

-- the error by which an output failed
abbrev pub write_error : {R F D : Type 0} → NamedOutput R F D → Option DeviceError
write_error out = out.error

-- the target is standard output
abbrev pub is_standard : {R F D : Type 0} → Target R F D → Bool
is_standard (target.File file) = false
is_standard (target.Atomic file) = false
is_standard (target.Standard printer) = true

-- the target is the file at the path, which is not made, or standard output for `-`
abbrev pub IsNamedTarget : {R F D : Type 0} → List ℕ → Target R F D → Type 0
IsNamedTarget name (target.File file) = (new_path file ≡ name) × IsUnmade file
IsNamedTarget name (target.Atomic file) = ⊥
IsNamedTarget name (target.Standard printer) = name ≡ standard

-- the output writes to the file at the path, which is not made, or to standard output for `-`, and has not failed
abbrev pub IsNamedOutput : {R F D : Type 0} → List ℕ → NamedOutput R F D → Type 0
IsNamedOutput name out = IsNamedTarget name out.target × (out.state ≡ Working)

-- the target is the file that is moved to the path when it is finished, of which nothing is made
abbrev pub IsAtomicTarget : {R F D : Type 0} → List ℕ → Target R F D → Type 0
IsAtomicTarget name (target.File file) = ⊥
IsAtomicTarget name (target.Atomic file) = (atomic_path file ≡ name) × atomic.IsUnmade file
IsAtomicTarget name (target.Standard printer) = ⊥

-- the output writes to the file that is moved to the path when it is finished, of which nothing is made, and has not
-- failed
abbrev pub IsAtomicOutput : {R F D : Type 0} → List ℕ → NamedOutput R F D → Type 0
IsAtomicOutput name out = IsAtomicTarget name out.target × (out.state ≡ Working)

-- the output is that of a job whose output has this name, or none, and comes under it so
abbrev pub IsOutputOf : {R F D : Type 0} → Option (List ℕ) → Placing → NamedOutput R F D → Type 0
IsOutputOf None placing out = IsNamedOutput standard out
IsOutputOf (Some name) InPlace out = IsNamedOutput name out
IsOutputOf (Some name) Atomic out = IsAtomicOutput name out

-- whether what was written to the target is under its name
abbrev pub is_target_placed : {R F D : Type 0} → Target R F D → Bool
is_target_placed (target.File file) = true
is_target_placed (target.Atomic file) = is_stage_placed file.stage
is_target_placed (target.Standard printer) = true

-- whether a write to an output has failed
abbrev pub has_failed : State → Bool
has_failed Working = false
has_failed Broken = true
has_failed Closed = true

-- whether all that was written to an output is under its name
abbrev pub is_placed : {R F D : Type 0} → Target R F D → State → Bool
is_placed target state = if has_failed state then false else is_target_placed target

-- whether the reader of standard output has gone away
abbrev pub is_closed : State → Bool
is_closed Working = false
is_closed Broken = false
is_closed Closed = true

-- the state after a write: one that takes nothing breaks the output too, and one to a pipe that nobody reads closes it
abbrev pub IsStateAfter : {E K : Type 0} → (E → K) → K → Bool → Result ℕ E → State → Type 0
IsStateAfter kind_of broken_pipe _ (Ok n) state = state ≡ (if n == 0 then Broken else Working)
IsStateAfter kind_of broken_pipe true (Err error) state =
    (kind_of error ≡ broken_pipe → state ≡ Closed) × (kind_of error ≢ broken_pipe → state ≡ Broken)
IsStateAfter kind_of broken_pipe false (Err error) state = state ≡ Broken
