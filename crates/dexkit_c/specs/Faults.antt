-- What a fault says of files, as lists of bytes, and what is handed out of it.
use Rattle.std.specs.Prelude.{◌≡◌, ◌⊎◌, ℕ, ◌<◌, Option, List, [], length, take, slice_index_or}
use Rattle.std.specs.List.{flat_map}
use Rattle.dexspec.specs.Files.{Collection, definitions}
use Rattle.dexspec.specs.Accepted.{IsRefused}
use Rattle.dexspec.specs.Merging.{Caps, Plan}
use Rattle.dexids.specs.declared.faults.ReadFault.{ReadFault}
use Rattle.dexids.specs.declared.faults.ReadFault.TheVariants as read
use Rattle.dexruns.specs.Counts.{IsCauseUnderAnyCaps}
use Rattle.dexruns.specs.Fans.{IsFanPlan}
use Rattle.dexruns.specs.Lines.{cause_text, exit_status}
use Rattle.dexruns.specs.Merges.{IsTrueCause}
use Rattle.dexruns.specs.declared.faults.MergeCause.{MergeCause}
use Rattle.dexruns.specs.declared.faults.MergeCause.TheVariants as cause
use Rattle.dexruns.specs.declared.faults.RunFault.{RunFault}
use Rattle.dexruns.specs.declared.faults.RunFault.TheVariants as run
use Rattle.dexkit_c.specs.Calls.{AreReadAs}
use Rattle.dexkit_c.specs.declared.faults.Fault.{Fault}

-- ---- of one file

-- the fault says to the caller that the only file is refused, and it is
pub record IsRefusalSaid (file : List ℕ) (fault : Fault) : Type 0 where
  pub kind : fault.kind ≡ 1
  pub input : fault.input ≡ 0
  pub refused : IsRefused file fault.number fault.place

-- a fault of a run over one file in memory: it is refused, or memory lacked (so the writer failed)
abbrev pub IsOfFile : List ℕ → RunFault → Type 0
IsOfFile file (run.Input i refusal) = IsRefused file refusal.number refusal.place
IsOfFile file run.Plan = ⊥
IsOfFile file (run.Merge reported) = ⊥
IsOfFile file (run.Read i) = Unit {0}
IsOfFile file run.Write = Unit {0}
IsOfFile file run.Memory = Unit {0}

-- ---- of files

-- the files before this one are accepted, and it is refused
pub record IsRefusedFile (files : List (List ℕ)) (i number place : ℕ) : Type 0 where
  pub within : i < length files
  pub collections : List Collection
  pub before : AreReadAs (take i files) collections
  pub refused : IsRefused (slice_index_or files i []) number place

-- why the files were not read
abbrev pub IsUnreadFile : List (List ℕ) → RunFault → Type 0
IsUnreadFile files (run.Input i refusal) = IsRefusedFile files i refusal.number refusal.place
IsUnreadFile files run.Plan = ⊥
IsUnreadFile files (run.Merge reported) = ⊥
IsUnreadFile files (run.Read i) = ⊥
IsUnreadFile files run.Write = ⊥
IsUnreadFile files run.Memory = Unit {0}

-- why file number i was not read, as a fault of a run
abbrev pub fault_of_input : ℕ → ReadFault → RunFault
fault_of_input i (read.Refused refusal) = run.Input i refusal
fault_of_input i read.Memory = run.Memory

-- the files are accepted, and the cause is true of their union, merged by the plan of the fan
pub record IsUnmergedBy (caps : Caps) (fan : Option ℕ) (files : List (List ℕ)) (reported : MergeCause) : Type 0 where
  pub collections : List Collection
  pub read : AreReadAs files collections
  pub plan : Plan
  pub fanned : IsFanPlan (length files) fan plan
  pub cause : IsTrueCause caps collections plan reported

-- the files are accepted, and the cause is that for which their union has no numbers
pub record AreUncountedBy (files : List (List ℕ)) (reported : MergeCause) : Type 0 where
  pub collections : List Collection
  pub read : AreReadAs files collections
  pub cause : IsCauseUnderAnyCaps (flat_map definitions collections) reported

-- what a fault says of the files, where this is so of a cause
abbrev pub IsFaultOfFiles : (MergeCause → Type 0) → List (List ℕ) → RunFault → Type 0
IsFaultOfFiles Unmade files (run.Input i refusal) = IsRefusedFile files i refusal.number refusal.place
IsFaultOfFiles Unmade files run.Plan = ⊥
IsFaultOfFiles Unmade files (run.Merge reported) = Unmade reported
IsFaultOfFiles Unmade files (run.Read i) = ⊥
IsFaultOfFiles Unmade files run.Write = ⊥
IsFaultOfFiles Unmade files run.Memory = Unit {0}

-- ---- what is handed out

-- the fault is of this cause
abbrev pub SaysCause : MergeCause → Fault → Type 0
SaysCause (cause.Conflict name) fault = fault.kind ≡ 2
SaysCause (cause.Cycle name) fault = fault.kind ≡ 3
SaysCause (cause.Cap number) fault = (fault.kind ≡ 4) × (fault.number ≡ number)

-- the fault says this to the caller
abbrev pub Says : RunFault → Fault → Type 0
Says (run.Input i refusal) fault =
    (fault.kind ≡ 1) × (fault.input ≡ i) × (fault.number ≡ refusal.number) × (fault.place ≡ refusal.place)
Says run.Plan fault = Unit {0}
Says (run.Merge reported) fault = SaysCause reported fault
Says (run.Read i) fault = Unit {0}
Says run.Write fault = Unit {0}
Says run.Memory fault = Unit {0}

-- the text says this to the caller
abbrev pub SaysInText : RunFault → List ℕ → Type 0
SaysInText (run.Input i refusal) text = ⊥
SaysInText run.Plan text = ⊥
SaysInText (run.Merge reported) text = text ≡ cause_text reported
SaysInText (run.Read i) text = ⊥
SaysInText run.Write text = ⊥
SaysInText run.Memory text = ⊥

-- what the fault and the text say is true of the files: one is refused, or all are read and the cause is true of them;
-- the text may be left out
pub record IsFaultSaid (Unmade : MergeCause → Type 0) (files : List (List ℕ)) (fault : Fault) (IsTextLeft : Type 0)
    (text : List ℕ) : Type 0 where
  pub why : RunFault
  pub status : exit_status why ≡ 1
  pub is : IsFaultOfFiles Unmade files why
  pub says : Says why fault
  pub says_text : IsTextLeft ⊎ SaysInText why text
