-- Runs of units, by how many bytes are left of a file.
use Rattle.std.specs.Prelude.{ℕ, ◌+◌, ◌*◌, ◌-◌, ◌<◌, ◌≤◌, List, length, drop, slice_index_or}
use Rattle.dexstr.specs.Units.{AfterUnits}
use Rattle.dexstr.specs.declared.runs.Run.{Run}

-- the last n bytes
abbrev pub last_bytes : ℕ → List ℕ → List ℕ
last_bytes n bytes = drop (length bytes - n) bytes

-- the run comes first in the last n bytes
pub record IsRun (bytes : List ℕ) (n : ℕ) (run : Run) : Type 0 where
  pub after : AfterUnits (last_bytes n bytes) run.count (last_bytes run.left bytes)
  pub room : run.count + run.left ≤ n

-- the runs that begin where fewer than n bytes are left, by one byte, two and three
abbrev pub AreLatest : List ℕ → ℕ → List Run → Type 0
AreLatest bytes n runs = (j : ℕ) (d : Run) → j < 3 → j < n → IsRun bytes (n - (j + 1)) (slice_index_or runs j d)

-- a block for each 64 bytes, from the end on: the latest runs at its third place
abbrev pub AreBlocks : List ℕ → List (List Run) → Type 0
AreBlocks bytes blocks =
    (k : ℕ) (d : List Run) → k < length blocks → AreLatest bytes (64 * k + 3) (slice_index_or blocks k d)
