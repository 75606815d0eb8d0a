-- Two sorted tables merged, and how far a merge has come.
use Rattle.std.specs.Prelude.{◌≡◌, ◌⊎◌, ℕ, ◌<◌, ◌≤◌, List, ◌++◌, length, slice_index, slice_index_or, All}
use Rattle.std.specs.List.{Contains}
use Rattle.std.specs.declared.cmp.Ordering.{Ordering}
use Rattle.std.specs.declared.cmp.Ordering.TheVariants.{Less, Equal, Greater}
use Rattle.dexrows.specs.Join.{row_cmp, AreSorted, IsImage, IsJoin}

-- the row is a row of one of the two
abbrev pub IsOfTwo : {R : Type 0} → List R → List R → R → Type 0
IsOfTwo left right row = Contains left row ⊎ Contains right row

-- the merged rows are sorted, rows of the two and no others, and each of the two has its places
pub record IsMerge {R : Type 0} (key : R → List ℕ) (left right rows : List R) (lefts rights : List ℕ) : Type 0 where
  pub sorted : AreSorted key rows
  pub rows_of : All (IsOfTwo left right) rows
  pub left_in : IsImage key rows left lefts
  pub right_in : IsImage key rows right rights

-- the first rows of a part have their places, and all rows so far are less than its next one
pub record HasTaken {R : Type 0} (key : R → List ℕ) (rows part : List R) (places : List ℕ) : Type 0 where
  pub count : length places ≤ length part
  pub within : (i : ℕ) → i < length places → slice_index places i < length rows
  pub same : (i : ℕ) (d : R) → i < length places
      → key (slice_index_or rows (slice_index places i) d) ≡ key (slice_index_or part i d)
  pub less : (d : R) → length places < length part
      → All (λ row. row_cmp key row (slice_index_or part (length places) d) ≡ Less) rows

-- the first rows of both are merged
pub record IsMerging {R : Type 0} (key : R → List ℕ) (left right rows : List R) (lefts rights : List ℕ) : Type 0 where
  pub sorted : AreSorted key rows
  pub rows_of : All (IsOfTwo left right) rows
  pub left_in : HasTaken key rows left lefts
  pub right_in : HasTaken key rows right rights

-- the next of the one part comes before that of the other, if the other has one
pub record ComesFirst {R : Type 0} (key : R → List ℕ) (one : List R) (i : ℕ) (other : List R) (j : ℕ) : Type 0 where
  pub has : i < length one
  pub first : (d : R) → j < length other → row_cmp key (slice_index_or one i d) (slice_index_or other j d) ≡ Less

-- both have a next one, and these have one key
pub record ComeTogether {R : Type 0} (key : R → List ℕ) (one : List R) (i : ℕ) (other : List R) (j : ℕ) : Type 0 where
  pub has_one : i < length one
  pub has_other : j < length other
  pub same : (d : R) → key (slice_index_or one i d) ≡ key (slice_index_or other j d)

-- which part's row comes next
abbrev pub IsNext : {R : Type 0} → (R → List ℕ) → List R → ℕ → List R → ℕ → Ordering → Type 0
IsNext key left i right j Less = ComesFirst key left i right j
IsNext key left i right j Equal = ComeTogether key left i right j
IsNext key left i right j Greater = ComesFirst key right j left i

-- whichever parts two tables are joined of, these rows are all those parts joined
abbrev pub IsJoinOfTwo : {R : Type 0} → (R → List ℕ) → List R → List (List ℕ) → List R → List (List ℕ) → List R
    → List (List ℕ) → Type 0
IsJoinOfTwo {R} key left left_images right right_images rows images =
    (parts others : List (List R)) → IsJoin key parts left left_images → IsJoin key others right right_images
    → IsJoin key (parts ++ others) rows images
