-- The statements of the laws of numberings: what a union has of its parts, and numbers as ranks.
use Rattle.std.specs.Prelude.{◌≡◌, ℕ, ◌<◌, ◌≤◌, List, length, slice_index_or, Some, IsSome, map, sum_by, All}
use Rattle.std.specs.declared.cmp.Ordering.{Ordering}
use Rattle.std.specs.List.{Contains, flat_map}
use Rattle.dexspec.specs.Classes.{Definition}
use Rattle.dexspec.specs.Lists.{rank}
use Rattle.dexspec.specs.Texts.{text_cmp}
use Rattle.dexspec.specs.Symbols.{proto_cmp, field_cmp, method_cmp}
use Rattle.dexspec.specs.Mentions.{Mentions, mentions}
use Rattle.dexpool.specs.declared.symbols.SymbolKind.{SymbolKind}
use Rattle.dexpool.specs.declared.marks.Marks.{Marks}
use Rattle.dexpool.specs.Pools.{count_of}
use Rattle.dexpool.specs.Numberings.{Maps, image_of, AreRising, union_of}
use Rattle.dexpool.specs.Uses.{Use, AreMarkedToo, IsMarkedUse, IsMappedUse, MapsMarked}

-- each number of the numbering has an image
abbrev pub MapsAll : Mentions → Maps → Type 0
MapsAll m r = (kind : SymbolKind) (i : ℕ) → i < count_of kind m → IsSome (image_of r kind i)

-- each image is a number of the numbering
abbrev pub MapsWithin : Mentions → Maps → Type 0
MapsWithin n r = (kind : SymbolKind) (i j : ℕ) → image_of r kind i ≡ Some j → j < count_of kind n

-- no rank in the first list is greater than in the second
abbrev pub RanksGrow : {K : Type 0} → (K → K → Ordering) → List K → List K → Type 0
RanksGrow {K} R xs ys = (s : K) → rank R s xs ≤ rank R s ys

-- of each symbol of each kind the rank in the first is at most that in the second
pub record AllRanksGrow (m n : Mentions) : Type 0 where
  pub texts_grow : RanksGrow text_cmp m.texts n.texts
  pub types_grow : RanksGrow text_cmp m.types n.types
  pub protos_grow : RanksGrow proto_cmp m.protos n.protos
  pub fields_grow : RanksGrow field_cmp m.fields n.fields
  pub methods_grow : RanksGrow method_cmp m.methods n.methods

-- the rank of the symbol at a place of the list is the place
abbrev pub RanksArePlaces : {K : Type 0} → (K → K → Ordering) → List K → Type 0
RanksArePlaces {K} R xs = (i : ℕ) (d : K) → i < length xs → rank R (slice_index_or xs i d) xs ≡ i

-- the rank of each symbol of each kind is its number
pub record RanksAreNumbers (m : Mentions) : Type 0 where
  pub texts_are : RanksArePlaces text_cmp m.texts
  pub types_are : RanksArePlaces text_cmp m.types
  pub protos_are : RanksArePlaces proto_cmp m.protos
  pub fields_are : RanksArePlaces field_cmp m.fields
  pub methods_are : RanksArePlaces method_cmp m.methods

-- ---- unions

-- in a union no symbol has a lesser rank than in a part
abbrev pub RanksGrowInUnions : Type 0
RanksGrowInUnions = (ms : List Mentions) (m : Mentions) → Contains ms m → AreRising m → AllRanksGrow m (union_of ms)

-- of no kind are there more symbols in a union than in its parts together
abbrev pub UnionsAddNone : Type 0
UnionsAddNone =
    (ms : List Mentions) (kind : SymbolKind) → count_of kind (union_of ms) ≤ sum_by (λ m. count_of kind m) ms

-- what definitions of several lists mention is the union of what those of each list mention
abbrev pub MentionsAreUnions : Type 0
MentionsAreUnions =
    (parts : List (List Definition)) → mentions (flat_map (λ part. part) parts) ≡ union_of (map mentions parts)

-- ---- marks

-- what was marked stays marked
abbrev pub MarksStay : Type 0
MarksStay =
    (us : List Use) (old new : Marks) → AreMarkedToo us old new → (vs : List Use) → All (IsMarkedUse old) vs
    → All (IsMarkedUse new) vs

-- where each marked number has an image, so has each symbol that is marked
abbrev pub MarkedAreMapped : Type 0
MarkedAreMapped =
    (marks : Marks) (r : Maps) → MapsMarked marks r → (us : List Use) → All (IsMarkedUse marks) us
    → All (IsMappedUse r) us
