-- what the map's own functions check
use Rattle.std.specs.Prelude.{◌≡◌, ◌≢◌, ◌⊎◌, ℕ, ◌+◌, ◌-◌, ◌*◌, ◌%◌, ◌<◌, ◌≤◌, List, ◌∷◌, take, map, All, IsTrue}
use Rattle.std.specs.Prelude.{slice_index_or}
use Rattle.std.specs.List.{Contains}
use Rattle.std.specs.Ordering.{nat_cmp}
use Rattle.dexspec.specs.Lists.{rises, AreDistinct}
use Rattle.dexspec.specs.Bytes.{uint_at}
use Rattle.dexspec.specs.Header.{Table, StringIds, TypeIds, ProtoIds, FieldIds, MethodIds, ClassDefs, map_off}
use Rattle.dexspec.specs.Sections.{MapEntry, HeaderItem, MapList, type_code, IsKnown, IsPlaced, IsInData, HasTable}
use Rattle.dexhead.specs.declared.map.Entry.{Entry}

-- the entry that was read
abbrev pub read : Entry → MapEntry
read e = record { kind = e.kind; size = e.size; off = e.off }

-- the entry at a place of a list
abbrev pub entry_of : List MapEntry → ℕ → MapEntry
entry_of es i = slice_index_or es i (record { kind = 0; size = 0; off = 0 })

-- a type code of the format, by its number
abbrev pub IsCode : ℕ → Type 0
IsCode n = (n ≤ 6) ⊎ ((0x1000 ≤ n) × (n ≤ 0x1003)) ⊎ ((0x2000 ≤ n) × (n ≤ 0x2006))

-- the bytes of the map are there
pub record IsInPlace (b : List ℕ) : Type 0 where
  pub in_data : IsInData b (map_off b) (4 + 12 * uint_at b (map_off b))
  pub aligned : map_off b % 4 ≡ 0

-- an entry fits after those before it
pub record IsNext (b : List ℕ) (es : List MapEntry) (i : ℕ) : Type 0 where
  pub known : IsCode (entry_of es i).kind
  pub new : All (λ e. e.kind ≢ (entry_of es i).kind) (take i es)
  pub above : (i ≡ 0) ⊎ ((entry_of es (i - 1)).off < (entry_of es i).off)
  pub placed : IsPlaced b (entry_of es i)

-- each entry fits after those before it
pub record AreInOrder (b : List ℕ) (es : List MapEntry) : Type 0 where
  pub known : All IsKnown es
  pub once : AreDistinct (map (λ e. e.kind) es)
  pub rise : IsTrue (rises nat_cmp (map (λ e. e.off) es))
  pub others : All (IsPlaced b) es

-- the first entry is the header's
pub record BeginsWithHeader (es : List MapEntry) : Type 0 where
  pub begins : (rest : List MapEntry) × (es ≡ record { kind = type_code HeaderItem; size = 1; off = 0 } ∷ rest)

-- a table is there as the header has it
pub record IsThere (b : List ℕ) (es : List MapEntry) (t : Table) : Type 0 where
  pub there : HasTable b es t

pub record HaveTables (b : List ℕ) (es : List MapEntry) : Type 0 where
  pub strings : IsThere b es StringIds
  pub types : IsThere b es TypeIds
  pub protos : IsThere b es ProtoIds
  pub fields : IsThere b es FieldIds
  pub methods : IsThere b es MethodIds
  pub classes : IsThere b es ClassDefs

-- the map itself is there
pub record HaveMap (b : List ℕ) (es : List MapEntry) : Type 0 where
  pub itself : Contains es (record { kind = type_code MapList; size = 1; off = map_off b })

-- all that is asked of the entries
pub record AreRight (b : List ℕ) (es : List MapEntry) : Type 0 where
  pub order : AreInOrder b es
  pub header : BeginsWithHeader es
  pub tables : HaveTables b es
  pub itself : HaveMap b es
