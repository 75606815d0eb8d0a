-- A layout of a canonical file: the offsets of its items, and the shared items that are written.
use Rattle.std.specs.Prelude.{ℕ, List, Option}
use Rattle.dexhead.specs.declared.head.Head.{Head}

-- Where items begin, an offset for each use and 0 where it has no item; and where they end.
pub record ItemPlaces : Type 0 where
  pub offsets : List ℕ
  pub end : ℕ

-- Items that are encoded: their bytes, with the zeros that align them, and their offsets.
pub record EncodedItems : Type 0 where
  pub bytes : List ℕ
  pub places : ItemPlaces

-- Items that are encoded where their bytes are few: the bytes, with the zeros that align them, or none where they are
-- not kept, and their offsets.
pub record KeptItems : Type 0 where
  pub bytes : Option (List ℕ)
  pub places : ItemPlaces

-- Items that equal uses share: the bytes of those that are written, how many they are, and their offsets.
pub record EncodedSharedItems : Type 0 where
  pub bytes : List ℕ
  pub count : ℕ
  pub places : ItemPlaces

-- Items that equal uses share, without their bytes: how many are written, and their offsets.
pub record SharedPlaces : Type 0 where
  pub count : ℕ
  pub places : ItemPlaces

-- The offsets of annotation sets: the own one of each class, that of each field, that of each method, and those of the
-- parameters of each method; and the sets that are written, with the offset of each.
pub record SetPlaces : Type 0 where
  pub own : List ℕ
  pub fields : List ℕ
  pub methods : List ℕ
  pub parameters : List ℕ
  pub written : EncodedItems

-- A whole layout: the header, without its sums, the parts in the order of the file, and the map.
pub record Places : Type 0 where
  pub head : Head
  pub type_lists : SharedPlaces
  pub annotations : EncodedItems
  pub static_values : EncodedItems
  pub strings : ItemPlaces
  pub debugs : EncodedSharedItems
  pub codes : KeptItems
  pub class_data : EncodedItems
  pub sets : SetPlaces
  pub ref_lists : ItemPlaces
  pub directories : EncodedItems
  pub map : EncodedItems
