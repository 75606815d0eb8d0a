-- The rows of a table, by the condition that is checked of them.
use Rattle.std.specs.Prelude.{◌≡◌, ℕ, ◌≤◌, true, false, List}
use Rattle.std.specs.declared.cmp.Ordering.{Ordering}
use Rattle.dexspec.specs.Conditions.{Condition}
use Rattle.dexspec.specs.Accepted.{number, rows_checked, place, Holds}
use Rattle.dexids.specs.Reading.{ReadTo, is_above_last}

-- all rows of the table
abbrev pub AreAllRows : {X : Type 0} → Condition → (List ℕ → ℕ → X → Type 0) → List ℕ → List X → Type 0
AreAllRows c Row b rows = ReadTo Row (Holds c) b rows (rows_checked c b)

-- row i is this one, and the condition holds there
pub record IsNextRow {X : Type 0} (c : Condition) (Row : List ℕ → ℕ → X → Type 0) (b : List ℕ) (i : ℕ) (x : X) :
    Type 0 where
  pub is : Row b i x
  pub holds : Holds c b i

-- after rows that meet the condition a further one meets it where it is greater than the last one, and only there
abbrev pub DecidesNext : {X : Type 0} → Condition → (List ℕ → ℕ → X → Type 0) → (X → X → Ordering) → List ℕ → Type 0
DecidesNext {X} c Row cmp b = (xs : List X) (i : ℕ) (x : X) → ReadTo Row (Holds c) b xs i → Row b i x
    → (is_above_last cmp x xs ≡ true → Holds c b i) × (is_above_last cmp x xs ≡ false → Holds c b i → ⊥)

-- the condition is one of 11 to 15, and is reported at the row
pub record IsOfPools (c : Condition) (b : List ℕ) (i : ℕ) : Type 0 where
  pub least : 11 ≤ number c
  pub most : number c ≤ 15
  pub reported : i ≡ place c b i
