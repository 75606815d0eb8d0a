-- The states of files that are opened when they are first used.
use Rattle.std.specs.Prelude.{◌≡◌, ◌⊎◌, ℕ, ◌-◌, List, take, Option, Some, None, Result, MatchResult}
use Rattle.std.specs.Io.KnownBytes.{ReadConsumes, WriteAppends}
use Rattle.dexcmd.specs.declared.files.Stage.TheVariants.{Closed, Open}
use Rattle.dexcmd.specs.declared.files.OldFile.{OldFile}
use Rattle.dexcmd.specs.declared.files.NewFile.{NewFile}

-- the path of a file to be read
abbrev pub old_path : {R F D : Type 0} → OldFile R F D → List ℕ
old_path old = old.path.now

-- it is not opened
abbrev pub IsClosed : {R F D : Type 0} → OldFile R F D → Type 0
IsClosed old = old.stage ≡ Closed

-- it is open, as this file
abbrev pub IsOpen : {R F D : Type 0} → F → OldFile R F D → Type 0
IsOpen file old = old.stage ≡ Open file

-- A read of an open file returned what a read of the file returned. It is closed at its end, after a fault, or where no
-- more of it is to be read, and not before.
pub record IsReadFrom {R F D E : Type 0} (remaining : F → Option (List ℕ)) (file : F) (old new : OldFile R F D)
    (result : Result ℕ E) (buf : List ℕ) : Type 0 where
  pub left : F
  pub read : ReadConsumes (remaining file) (remaining left) result (take old.unread buf)
  pub unread : MatchResult result (λ n. new.unread ≡ old.unread - n) (λ _. Unit {0})
  pub stays : MatchResult result (λ n. (new.stage ≡ Open left) ⊎ ((n ≡ 0) ⊎ (new.unread ≡ 0))) (λ _. Unit {0})

-- the path of a file to be written
abbrev pub new_path : {R F D : Type 0} → NewFile R F D → List ℕ
new_path new = new.path.now

-- it is not made
abbrev pub IsUnmade : {R F D : Type 0} → NewFile R F D → Type 0
IsUnmade new = new.file ≡ None

-- a write to a file that is made returned what a write to the file returned
pub record IsWrittenTo {R F D E : Type 0} (contents : F → Option (List ℕ)) (file : F) (new : NewFile R F D)
    (result : Result ℕ E) (buf : List ℕ) : Type 0 where
  pub left : F
  pub is : new.file ≡ Some left
  pub written : WriteAppends (contents file) (contents left) result buf
