-- Parts of debug programs as they are read, and when there are none.
use Rattle.std.specs.Prelude.{◌≡◌, ℕ, List, Option, Some}
use Rattle.dexspec.specs.Mentions.{Mentions}
use Rattle.dexpool.specs.Pools.{ArePools}
use Rattle.dexdebug.specs.declared.debug_operation.Operation.{Operation}
use Rattle.dexdebug.specs.declared.debug_reading.Counts.{Counts}
use Rattle.dexdebug.specs.Debug.{NumberedDebug}
use Rattle.dexdebug.specs.DebugReading.{HasNoDebug, LocalAt, NamesAt, NumberedDebugAt, ProgramAt}

-- what is read is the only description of a local variable at offset o
abbrev pub IsOnlyLocal : Counts → List ℕ → ℕ → Option (ℕ × Option ℕ × Option ℕ × ℕ) → Type 0
IsOnlyLocal m b o read =
    (register_num : ℕ) (name_idx type_idx : Option ℕ) (n : ℕ) → LocalAt m b o register_num name_idx type_idx n
    → read ≡ Some (register_num, name_idx, type_idx, n)

-- there are not `count` names from offset o on
abbrev pub NoNames : ℕ → List ℕ → ℕ → ℕ → Type 0
NoNames texts b o count = (names : List (Option ℕ)) (n : ℕ) → NamesAt texts b o count names n → ⊥

-- from offset o on are no operations with an end
abbrev pub NoProgram : Counts → List ℕ → ℕ → Type 0
NoProgram m b o = (ops : List Operation) → ProgramAt m b o ops → ⊥

-- at offset o is no numbered debug program
abbrev pub NoNumberedDebug : Counts → List ℕ → ℕ → Type 0
NoNumberedDebug m b o = (d : NumberedDebug) → NumberedDebugAt m b o d → ⊥

-- where the pools are those of the file, there is no debug program at the offset
abbrev pub HasNoDebugIn : List ℕ → ℕ → Mentions → Type 0
HasNoDebugIn b off m = ArePools b m → HasNoDebug b off
