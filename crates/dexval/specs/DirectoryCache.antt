-- The cache of directories: the parts that were read, by offset.
use Rattle.std.specs.Prelude.{◌≡◌, ℕ, ◌<◌, ◌^◌, List, Option, Some, length, nat_eq}
use Rattle.std.specs.List.{Contains}
use Rattle.std.specs.HashMap.{get}
use Rattle.dexspec.specs.Lists.{AreDistinct}
use Rattle.dexspec.specs.Mentions.{Mentions}
use Rattle.dexval.specs.declared.directory_cache.DirectoryCache.{DirectoryCache}
use Rattle.dexval.specs.Directories.{IsRefListAt}
use Rattle.dexval.specs.Reading.{IsSetAt}
use Rattle.dexval.specs.SharedItems.{AreSharedIn}
use Rattle.dexval.specs.Tables.{Extends, AreNewNamed, set_at, sets_at}

-- this many items have each an offset of their own, at which a place is recorded
pub record HaveOffsets (place_at : ℕ → Option ℕ) (count : ℕ) : Type 0 where
  pub offsets : List ℕ
  pub counted : length offsets ≡ count
  pub distinct : AreDistinct offsets
  pub small : (off : ℕ) → Contains offsets off → off < 2 ^ 32
  pub recorded : (off : ℕ) → Contains offsets off → (place : ℕ) × (place_at off ≡ Some place)

-- each recorded place is one of the table's, and each item of the table has an offset
pub record AreHeld (cache : DirectoryCache) : Type 0 where
  pub sets_held : (off place : ℕ) → get nat_eq cache.sets off ≡ Some place → place < length cache.table.sets
  pub lists_held : (off place : ℕ) → get nat_eq cache.lists off ≡ Some place → place < length cache.table.lists
  pub sets_placed : HaveOffsets (λ off. get nat_eq cache.sets off) (length cache.table.sets)
  pub lists_placed : HaveOffsets (λ off. get nat_eq cache.lists off) (length cache.table.lists)

-- each recorded item is at its offset, and so is what classes share
pub record AreCached (b : List ℕ) (m : Mentions) (cache : DirectoryCache) : Type 0 where
  pub sets_cached : (off place : ℕ) → get nat_eq cache.sets off ≡ Some place
      → IsSetAt b off m (set_at cache.table.sets (Some place))
  pub lists_cached : (off place : ℕ) → get nat_eq cache.lists off ≡ Some place
      → IsRefListAt b off m (sets_at cache.table (Some place))
  pub items_shared : AreSharedIn b m cache.items

-- An item was read and recorded: the table grew, and still has the recorded places and that of the item. The item names
-- what is new in the table.
pub record IsNoted (SetNamed ListNamed : ℕ → Type 0) (Held : Type 0) (old new : DirectoryCache) : Type 0 where
  pub extended : Extends old.table new.table
  pub noted_held : AreHeld new
  pub held : Held
  pub named : AreNewNamed SetNamed ListNamed old.table new.table

-- a member's place names it
abbrev pub IsNamedOf : (Option ℕ → ℕ → Type 0) → List (ℕ × ℕ) → ℕ → Type 0
IsNamedOf names members i = (number : ℕ) × (place : ℕ) × Contains members (number, place) × names (Some place) i
