-- Two sorted tables merged, as a call returns them or has merged them so far.
use Rattle.std.specs.Prelude.{◌≡◌, ℕ, ◌+◌, ◌≤◌, List, Option, MatchOption, length, slice_index_or}
use Rattle.std.specs.declared.cmp.Ordering.{Ordering}
use Rattle.std.specs.declared.cmp.Ordering.TheVariants.{Greater}
use Rattle.dexrows.specs.declared.joining.Joined.{Joined}
use Rattle.dexrows.specs.declared.merging.Merged.{Merged}
use Rattle.dexrows.specs.Joined.{images_of}
use Rattle.dexrows.specs.internal.Merge.{IsMerge, IsMerging, IsNext, IsJoinOfTwo}

-- the rows of both are merged, with the places of each
abbrev pub Merges : {R : Type 0} → (R → List ℕ) → List R → List R → Merged R → Type 0
Merges key left right merged =
    IsMerge key left right merged.rows.items merged.left_places.items merged.right_places.items

-- the first rows of both are merged
abbrev pub HasMerged : {R : Type 0} → (R → List ℕ) → List R → List R → Merged R → Type 0
HasMerged key left right merged =
    IsMerging key left right merged.rows.items merged.left_places.items merged.right_places.items

-- how many rows of both are merged
abbrev pub taken_count : {R : Type 0} → Merged R → ℕ
taken_count merged = length merged.left_places.items + length merged.right_places.items

-- which table's row comes next, after those that are merged
abbrev pub ComesNext : {R : Type 0} → (R → List ℕ) → List R → List R → Merged R → Ordering → Type 0
ComesNext key left right merged order =
    IsNext key left (length merged.left_places.items) right (length merged.right_places.items) order

-- the row is the next of the right table where that comes next, and else of the left one
abbrev pub IsNextRow : {R : Type 0} → List R → List R → Merged R → Ordering → R → Type 0
IsNextRow left right merged Greater row = row ≡ slice_index_or right (length merged.right_places.items) row
IsNextRow left right merged _ row = row ≡ slice_index_or left (length merged.left_places.items) row

-- which table's row comes next, if one of them has another
abbrev pub FindsNext : {R : Type 0} → (R → List ℕ) → List R → ℕ → List R → ℕ → Option Ordering → Type 0
FindsNext key left i right j found =
    MatchOption found ((length left ≤ i) × (length right ≤ j)) (IsNext key left i right j)

-- the rows are those of the parts of two joined tables, all joined
abbrev pub JoinsTwo : {R : Type 0} → (R → List ℕ) → Joined R → Joined R → Joined R → Type 0
JoinsTwo key left right joined =
    IsJoinOfTwo key left.rows.items (images_of left.images.items) right.rows.items (images_of right.images.items)
    joined.rows.items (images_of joined.images.items)
