-- Items of a file that are read into the cache of a directory, and counted against a budget; and items that are
-- checked.
use Rattle.std.specs.Prelude.{◌≡◌, ◌⊎◌, ℕ, ◌+◌, ◌-◌, ◌*◌, ◌^◌, ◌<◌, ◌≤◌, min, length, List, Option, Some, All, map}
use Rattle.std.specs.Prelude.{sum_by}
use Rattle.std.specs.Global.{Vec}
use Rattle.std.specs.List.{Contains}
use Rattle.dexspec.specs.Bytes.{uint_at}
use Rattle.dexspec.specs.Annotations.{PairsAt, fields_count, methods_count, parameters_count}
use Rattle.dexspec.specs.Mentions.{Mentions}
use Rattle.dexpool.specs.declared.faults.ItemFault.{ItemFault}
use Rattle.dexpool.specs.declared.faults.ItemFault.TheVariants.{Refused, Memory}
use Rattle.dexval.specs.declared.directory_cache.Budget.{Budget}
use Rattle.dexval.specs.declared.directory_cache.DirectoryCache.{DirectoryCache}
use Rattle.dexval.specs.declared.directory_reading.PairRange.{PairRange}
use Rattle.dexval.specs.declared.directory_reading.DirectoryPairs.{DirectoryPairs}
use Rattle.dexval.specs.declared.directory_cache.File.{File}
use Rattle.dexval.specs.declared.directory_checking.CheckedSets.{CheckedSets}
use Rattle.dexval.specs.declared.shared_items.SharedItems.{SharedItems}
use Rattle.dexval.specs.CheckedSets.{IsWeighed, AreChecked}
use Rattle.dexval.specs.Directories.{IsKnownAt, IsSetOrEmptyAt, IsRefListAt, IsIndexBelow, HasPair, ArePairsAt}
use Rattle.dexval.specs.Directories.{NoPairsAt, set_weight_in, sets_weight_in}
use Rattle.dexval.specs.DirectoryCache.{AreCached, IsNoted, IsNamedOf}
use Rattle.dexval.specs.Items.{IsRefusal}
use Rattle.dexval.specs.Nesting.{HasPools}
use Rattle.dexval.specs.Reading.{IsSetAt}
use Rattle.dexval.specs.Results.{AreMemberCounts}
use Rattle.dexval.specs.SharedItems.{AreSharedIn}
use Rattle.dexval.specs.Tables.{NumberedTable, IsPlaceIn, IsListed, set_at, sets_at}

-- ---- the file and the cache

-- the pools are those of the file, and rise
abbrev pub IsFile : File → Type 0
IsFile file = HasPools file.frame.now file.pools.now

-- the recorded items are in the file
abbrev pub IsCacheOf : File → DirectoryCache → Type 0
IsCacheOf file cache = AreCached file.frame.now file.pools.now cache

-- the items that were checked are in the file
abbrev pub AreCheckedOf : File → CheckedSets → Type 0
AreCheckedOf file checked = AreChecked file.frame.now file.pools.now checked

-- the items that classes share, if they do, are in the file
abbrev pub AreSharedBy : File → Option SharedItems → Type 0
AreSharedBy file items = AreSharedIn file.frame.now file.pools.now items

-- ---- items that are recorded

-- a set was recorded at the place
abbrev pub IsSetNoted : DirectoryCache → DirectoryCache → Option ℕ → Type 0
IsSetNoted old new place = IsNoted (λ i. place ≡ Some i) (λ i. ⊥) (IsPlaceIn new.table.sets place) old new

-- the sets of a list were recorded at the places
abbrev pub AreSetsNoted : DirectoryCache → DirectoryCache → Vec (Option ℕ) → Type 0
AreSetsNoted old new places =
    IsNoted (λ i. Contains places.items (Some i)) (λ i. ⊥) (All (IsPlaceIn new.table.sets) places.items) old new

-- a list was recorded at the place, and its sets
abbrev pub IsListNoted : DirectoryCache → DirectoryCache → ℕ → Type 0
IsListNoted old new place =
    IsNoted (IsListed new.table) (λ i. Some place ≡ Some i) (IsPlaceIn new.table.lists (Some place)) old new

-- the item of a member was recorded at the place
abbrev pub IsItemNoted : (NumberedTable → Option ℕ → Type 0) → (NumberedTable → Option ℕ → ℕ → Type 0)
    → (Option ℕ → ℕ → Type 0) → DirectoryCache → DirectoryCache → ℕ → Type 0
IsItemNoted is_held names_set names_list old new place =
    IsNoted (names_set new.table (Some place)) (names_list (Some place)) (is_held new.table (Some place)) old new

-- the items of members were recorded at their places
abbrev pub AreAllNoted : (NumberedTable → Option ℕ → Type 0) → (NumberedTable → Option ℕ → ℕ → Type 0)
    → (Option ℕ → ℕ → Type 0) → DirectoryCache → DirectoryCache → Vec (ℕ × ℕ) → Type 0
AreAllNoted is_held names_set names_list old new members =
    IsNoted (IsNamedOf (names_set new.table) members.items) (IsNamedOf names_list members.items)
    (All (λ e. is_held new.table (Some e.1)) members.items) old new

-- ---- items that are counted

-- items of this weight were counted, up to 2^64 - 1, and the budget is not exceeded if it was not before
pub record Counts (old new : Budget) (weight : ℕ) : Type 0 where
  pub grown : min (2 ^ 64 - 1) new.weight ≡ min (2 ^ 64 - 1) (old.weight + weight)
  pub same_most : new.most ≡ old.most
  pub within : old.weight ≤ old.most → new.weight ≤ new.most

-- an item was read and counted
pub record HasCounted {X : Type 0} (Read : X → Type 0) (weighs : X → ℕ) (old new : Budget) (item : X) : Type 0 where
  pub is_read : Read item
  pub counted : Counts old new (weighs item)

-- no such item is there; or each one, counted after the weight `before`, exceeds `most`, which is below 2^64 - 1
abbrev pub IsFaultWithin : {Y : Type 0} → (Y → Type 0) → (Y → ℕ) → ℕ → ℕ → ItemFault → Type 0
IsFaultWithin {Y} At weighs before most (Refused number) =
    ((number ≡ 22) × ((y : Y) → At y → ⊥))
    ⊎ ((number ≡ 23) × (most < 2 ^ 64 - 1) × ((y : Y) → At y → most < before + weighs y))
IsFaultWithin {Y} At weighs before most Memory = Unit {0}

-- what weighs `weight` is too heavy
abbrev pub IsTooHeavy : Budget → ℕ → ItemFault → Type 0
IsTooHeavy budget weight = IsFaultWithin (λ n. n ≡ weight) (λ n. n) budget.weight budget.most

-- the set at the offset, by its place
abbrev pub HasCountedSet : File → ℕ → Budget → Budget → DirectoryCache → ℕ → Type 0
HasCountedSet file off old new cache place =
    HasCounted (IsSetAt file.frame.now off file.pools.now) (set_weight_in file.pools.now) old new
    (set_at cache.table.sets (Some place))

-- the set at the offset, by its place, or none at offset 0
abbrev pub HasCountedSetOrEmpty : File → ℕ → Budget → Budget → DirectoryCache → Option ℕ → Type 0
HasCountedSetOrEmpty file off old new cache place =
    HasCounted (IsSetOrEmptyAt file.frame.now off file.pools.now) (set_weight_in file.pools.now) old new
    (set_at cache.table.sets place)

-- the list at the offset, by the places of its sets
abbrev pub HasCountedSets : File → ℕ → Budget → Budget → DirectoryCache → Vec (Option ℕ) → Type 0
HasCountedSets file off old new cache places =
    HasCounted (IsRefListAt file.frame.now off file.pools.now) (sets_weight_in file.pools.now) old new
    (map (set_at cache.table.sets) places.items)

-- the list at the offset, by its place
abbrev pub HasCountedList : File → ℕ → Budget → Budget → DirectoryCache → ℕ → Type 0
HasCountedList file off old new cache place =
    HasCounted (IsRefListAt file.frame.now off file.pools.now) (sets_weight_in file.pools.now) old new
    (sets_at cache.table (Some place))

-- the item of a member, by its place
abbrev pub HasCountedItem : {X Y : Type 0} → (Mentions → X → Type 0) → (Mentions → X → Y) → (List ℕ → ℕ → Y → Type 0)
    → (Y → ℕ) → (NumberedTable → Option ℕ → X) → File → ℕ → Budget → Budget → DirectoryCache → ℕ → Type 0
HasCountedItem is_known inside encodes weighs of file off old new cache place =
    HasCounted (IsKnownAt (is_known file.pools.now) (inside file.pools.now) (encodes file.frame.now off))
    (λ x. weighs (inside file.pools.now x)) old new (of cache.table (Some place))

-- the items of the members of these pairs, by their places
abbrev pub HaveCountedPairs : {X Y : Type 0} → (Mentions → X → Type 0) → (Mentions → X → Y) → (List ℕ → ℕ → Y → Type 0)
    → (Y → ℕ) → (NumberedTable → Option ℕ → X) → File → PairRange → Budget → Budget → DirectoryCache → Vec (ℕ × ℕ)
    → Type 0
HaveCountedPairs is_known inside encodes weighs of file pairs old new cache members =
    HasCounted
    (ArePairsAt (is_known file.pools.now) (inside file.pools.now) encodes file.frame.now pairs.at pairs.count
    pairs.limit) (sum_by (λ e. weighs (inside file.pools.now e.1))) old new
    (map (λ e. (e.0, of cache.table (Some e.1))) members.items)

-- a fault of such pairs
abbrev pub IsPairsFault : {Y : Type 0} → (List ℕ → ℕ → Y → Type 0) → (Y → ℕ) → List ℕ → PairRange → Budget → ItemFault
    → Type 0
IsPairsFault encodes weighs b pairs budget =
    IsFaultWithin (PairsAt (IsIndexBelow pairs.limit) encodes b pairs.at pairs.count) (sum_by (λ e. weighs e.1))
    budget.weight budget.most

-- ---- pairs and faults

-- the pairs are at the offset, with this count, of members below the limit
abbrev pub IsRange : PairRange → ℕ → ℕ → ℕ → Type 0
IsRange pairs at count limit = (pairs.at ≡ at) × (pairs.count ≡ count) × (pairs.limit ≡ limit)

-- the pairs of the directory at the offset
pub record ArePairsOf (b : List ℕ) (off : ℕ) (m : Mentions) (pairs : DirectoryPairs) : Type 0 where
  pub counts_are : AreMemberCounts b off pairs.counts
  pub fields_are : IsRange pairs.fields (off + 16) (fields_count b off) (length m.fields)
  pub methods_are : IsRange pairs.methods (off + 16 + 8 * fields_count b off) (methods_count b off) (length m.methods)
  pub parameters_are : IsRange pairs.parameters (off + 16 + 8 * fields_count b off + 8 * methods_count b off)
      (parameters_count b off) (length m.methods)

-- the number and the offset of a pair
abbrev pub IsPairAt : List ℕ → ℕ → ℕ → ℕ → ℕ × ℕ → Type 0
IsPairAt b at least limit pair = HasPair b at least limit × (pair.0 ≡ uint_at b at) × (pair.1 ≡ uint_at b (at + 4))

-- the fault refuses the offset: no item is there
abbrev pub IsFaultAt : {Y : Type 0} → (List ℕ → ℕ → Y → Type 0) → List ℕ → ℕ → ItemFault → Type 0
IsFaultAt {Y} encodes b off = IsRefusal ((item : Y) → encodes b off item → ⊥)

-- the fault refuses the pairs: they are not there
abbrev pub IsFaultOf : {Y : Type 0} → (List ℕ → ℕ → Y → Type 0) → List ℕ → PairRange → ItemFault → Type 0
IsFaultOf encodes b pairs = IsRefusal (NoPairsAt encodes b pairs.at pairs.count pairs.limit)

-- ---- items that are checked, by their weights

-- the set at the offset
abbrev pub HasSetOrEmptyOf : List ℕ → ℕ → Mentions → ℕ → Type 0
HasSetOrEmptyOf b off m = IsWeighed (IsSetOrEmptyAt b off m) (set_weight_in m)

-- the item of a member
abbrev pub HasItemOf : {X Y : Type 0} → (Mentions → X → Type 0) → (Mentions → X → Y) → (List ℕ → ℕ → Y → Type 0)
    → (Y → ℕ) → List ℕ → ℕ → Mentions → ℕ → Type 0
HasItemOf is_known inside encodes weighs b off m =
    IsWeighed (IsKnownAt (is_known m) (inside m) (encodes b off)) (λ x. weighs (inside m x))

-- the items of the members of these pairs
abbrev pub HasPairsOf : {X Y : Type 0} → (Mentions → X → Type 0) → (Mentions → X → Y) → (List ℕ → ℕ → Y → Type 0)
    → (Y → ℕ) → List ℕ → PairRange → Mentions → ℕ → Type 0
HasPairsOf is_known inside encodes weighs b pairs m =
    IsWeighed (ArePairsAt (is_known m) (inside m) encodes b pairs.at pairs.count pairs.limit)
    (sum_by (λ e. weighs (inside m e.1)))
