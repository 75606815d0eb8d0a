-- A table cut down to its marked rows.
use Rattle.std.specs.Prelude.{ℕ, suc, Bool, true, false, List, [], ◌∷◌, Option, Some, None}

-- the marked rows
abbrev pub kept : {R : Type 0} → List Bool → List R → List R
kept [] rows = []
kept (mark ∷ marks) [] = []
kept (true ∷ marks) (row ∷ rows) = row ∷ kept marks rows
kept (false ∷ marks) (row ∷ rows) = kept marks rows

-- the place of each row among the marked ones, if it is one, where n are before them
abbrev pub places : ℕ → List Bool → List (Option ℕ)
places n [] = []
places n (true ∷ marks) = Some n ∷ places (suc n) marks
places n (false ∷ marks) = None ∷ places n marks
