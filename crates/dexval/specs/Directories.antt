-- Lists of sets and directories, as read.
use Rattle.std.specs.Prelude.{◌≡◌, ◌≢◌, ℕ, ◌+◌, ◌*◌, ◌%◌, ◌<◌, ◌≤◌, List, [], map, sum_by, All}
use Rattle.dexspec.specs.Lists.{OrNone}
use Rattle.dexspec.specs.Bytes.{uint_at}
use Rattle.dexspec.specs.Sections.{IsInData}
use Rattle.dexspec.specs.Annotations.{AnnotationSet, Directory, SetAt, RefListAt, PairsAt, DirectoryAt, fields_count}
use Rattle.dexspec.specs.Annotations.{methods_count, parameters_count}
use Rattle.dexspec.specs.Mentions.{Mentions}
use Rattle.dexspec.specs.Weight.{set_weight, ref_list_weight}
use Rattle.dexval.specs.Numbered.{NumberedSet, IsKnownSet, set_in}

-- ---- sets and lists of sets

-- the numbers are those of symbols, and the item that they denote is in the file
pub record IsKnownAt {X Y : Type 0} (Known : X → Type 0) (inside : X → Y) (At : Y → Type 0) (x : X) : Type 0 where
  pub known : Known x
  pub at : At (inside x)

-- the set that the numbers denote is at the offset; at 0 it is empty
abbrev pub IsSetOrEmptyAt : List ℕ → ℕ → Mentions → NumberedSet → Type 0
IsSetOrEmptyAt b off m = IsKnownAt (IsKnownSet m) (set_in m) (OrNone SetAt [] b off)

-- the offset is not 0, and no set is there
abbrev pub NoSetOrEmptyAt : List ℕ → ℕ → Type 0
NoSetOrEmptyAt b off = (s : AnnotationSet) → OrNone SetAt [] b off s → ⊥

-- an annotation_set_ref_list of the sets that the numbers denote is at the offset
abbrev pub IsRefListAt : List ℕ → ℕ → Mentions → List NumberedSet → Type 0
IsRefListAt b off m = IsKnownAt (All (IsKnownSet m)) (map (set_in m)) (RefListAt b off)

-- no annotation_set_ref_list is at the offset
abbrev pub NoRefListAt : List ℕ → ℕ → Type 0
NoRefListAt b off = (ss : List AnnotationSet) → RefListAt b off ss → ⊥

-- ---- members with their items

-- the number is the index, and below the limit
pub record IsIndexBelow (limit : ℕ) (b : List ℕ) (index number : ℕ) : Type 0 where
  pub is : number ≡ index
  pub below : index < limit

-- a pair of an index from `least` on, below the limit, and an offset that is not 0
pub record HasPair (b : List ℕ) (at least limit : ℕ) : Type 0 where
  pub above : least ≤ uint_at b at
  pub below : uint_at b at < limit
  pub offset : uint_at b (at + 4) ≢ 0

-- n pairs from an offset on: members by their numbers, which are below the limit, and their items
pub record ArePairsAt {X Y : Type 0} (Known : X → Type 0) (inside : X → Y) (At : List ℕ → ℕ → Y → Type 0) (b : List ℕ)
    (p n limit : ℕ) (xs : List (ℕ × X)) : Type 0 where
  pub members_known : All (λ e. (e.0 < limit) × Known e.1) xs
  pub pairs_encoded : PairsAt (IsIndexBelow limit) At b p n (map (λ e. (e.0, inside e.1)) xs)

-- no n such pairs are there
abbrev pub NoPairsAt : {Y : Type 0} → (List ℕ → ℕ → Y → Type 0) → List ℕ → ℕ → ℕ → ℕ → Type 0
NoPairsAt {Y} At b p n limit = (entries : List (ℕ × Y)) → PairsAt (IsIndexBelow limit) At b p n entries → ⊥

-- ---- directories

-- the counts of a directory and all its pairs are inside the data, at a multiple of 4
pub record HasMembers (b : List ℕ) (off : ℕ) : Type 0 where
  pub in_data : IsInData b off (16 + 8 * (fields_count b off + methods_count b off + parameters_count b off))
  pub aligned : off % 4 ≡ 0

-- no annotations_directory_item is at the offset
abbrev pub NoDirectoryAt : List ℕ → ℕ → Type 0
NoDirectoryAt b off = (d : Directory) → DirectoryAt b off d → ⊥

-- ---- weights

-- the weight of the sets and the lists of sets of a directory
abbrev pub directory_weight : Directory → ℕ
directory_weight d =
    set_weight d.own + sum_by (λ e. set_weight e.1) d.fields + sum_by (λ e. set_weight e.1) d.methods
    + sum_by (λ e. ref_list_weight e.1) d.parameters

-- the weight of the set that the numbers denote
abbrev pub set_weight_in : Mentions → NumberedSet → ℕ
set_weight_in m s = set_weight (set_in m s)

-- the weight of a list of such sets
abbrev pub sets_weight_in : Mentions → List NumberedSet → ℕ
sets_weight_in m ss = ref_list_weight (map (set_in m) ss)
