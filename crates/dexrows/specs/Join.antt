-- Sorted tables joined: what the joined rows and the images of the parts are.
use Rattle.std.specs.Prelude.{◌≡◌, ℕ, ◌<◌, true, List, length, slice_index, slice_index_or, All}
use Rattle.std.specs.List.{AllZip, Contains}
use Rattle.std.specs.declared.cmp.Ordering.{Ordering}
use Rattle.dexspec.specs.Lists.{rises}
use Rattle.dexspec.specs.Rows.{key_cmp}

-- rows in the order of their keys
abbrev pub row_cmp : {R : Type 0} → (R → List ℕ) → R → R → Ordering
row_cmp key x y = key_cmp (key x) (key y)

-- each row has a greater key than the one before it
abbrev pub AreSorted : {R : Type 0} → (R → List ℕ) → List R → Type 0
AreSorted key rows = rises (row_cmp key) rows ≡ true

-- for each row of the part, the place of the joined row that has its key
pub record IsImage {R : Type 0} (key : R → List ℕ) (joined part : List R) (image : List ℕ) : Type 0 where
  pub count : length image ≡ length part
  pub within : (i : ℕ) → i < length part → slice_index image i < length joined
  pub same : (i : ℕ) (d : R) → i < length part
      → key (slice_index_or joined (slice_index image i) d) ≡ key (slice_index_or part i d)

-- the row is a row of one of the parts
pub record IsOfParts {R : Type 0} (parts : List (List R)) (row : R) : Type 0 where
  pub part : List R
  pub is_part : Contains parts part
  pub has : Contains part row

-- the joined rows are sorted, rows of the parts and no others, and each part has its image
pub record IsJoin {R : Type 0} (key : R → List ℕ) (parts : List (List R)) (joined : List R) (images : List (List ℕ)) :
    Type 0 where
  pub sorted : AreSorted key joined
  pub rows_of : All (IsOfParts parts) joined
  pub parts_in : AllZip (IsImage key joined) parts images

-- the rows are some parts joined
abbrev pub AreJoined : {R : Type 0} → (R → List ℕ) → List R → List (List ℕ) → Type 0
AreJoined {R} key rows images = (parts : List (List R)) × IsJoin key parts rows images
