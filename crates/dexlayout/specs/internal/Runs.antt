-- Numbers that are kept run by run: of equal runs only one is kept.
use Rattle.std.specs.Prelude.{ℕ, ◌<◌, ◌≤◌, List, [], All, length, slice_index_or}
use Rattle.std.specs.List.{flat_map}

-- the numbers of runs, each of which is that at its place among those that are kept
abbrev pub run_numbers : List (List ℕ) → List ℕ → List ℕ
run_numbers kept runs = flat_map (λ i. slice_index_or kept i []) runs

-- the runs are among those that are kept, of which none is empty
pub record AreRuns (kept : List (List ℕ)) (runs : List ℕ) : Type 0 where
  pub within : All (λ i. i < length kept) runs
  pub full : All (λ run. 1 ≤ length run) kept
