-- What is printed on standard error.
use Rattle.std.specs.Prelude.{ℕ, List, [], ◌∷◌, ◌++◌, map, Result, Ok, Err, codes, string_bytes}
use Rattle.std.specs.List.{flat_map}
use Rattle.std.specs.declared.alloc.AllocError.{AllocError}
use Rattle.dexcmd.specs.declared.outcome_report.Report.{Report}

-- a line and its end
abbrev pub line_text : List ℕ → List ℕ
line_text line = line ++ codes "\n"

-- each line and its end
abbrev pub lines_text : List (List ℕ) → List ℕ
lines_text lines = flat_map line_text lines

-- the lines of what there is to report: without memory for it, that there was none
abbrev pub printed_lines : Result Report AllocError → List (List ℕ)
printed_lines (Ok report) = map string_bytes report.lines.items
printed_lines (Err error) = codes "dexkit: out of memory" ∷ []

-- the exit status with it
abbrev pub printed_status : Result Report AllocError → ℕ
printed_status (Ok report) = report.status
printed_status (Err error) = 4
