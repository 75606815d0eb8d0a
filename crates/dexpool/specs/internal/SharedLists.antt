-- Parts of a list of parameters that have the numbers of other parts.
use Rattle.std.specs.Prelude.{◌≡◌, ℕ, ◌+◌, ◌<◌, ◌≤◌, List, length, map, slice_index, slice_index_or, All}
use Rattle.dexrows.specs.Join.{IsJoin}
use Rattle.dexrows.specs.Numbers.{ProtoNumbers}
use Rattle.dexrows.specs.declared.joining.Joined.{Joined}
use Rattle.dexpool.specs.declared.renumbering.Protos.{Protos}
use Rattle.dexids.specs.declared.rows.ProtoEntry.{ProtoEntry}
use Rattle.dexids.specs.declared.rows.Span.{Span}
use Rattle.dexids.specs.Tables.{span_of}
use Rattle.dexids.specs.Reading.{HasSpan}
use Rattle.dexpool.specs.internal.Joining.{proto_key, lists_in}
use Rattle.dexpool.specs.internal.Renumbering.{numbers_in}

-- the first part has the numbers of the second, if that one has any
abbrev pub Covers : Span → Span → Type 0
Covers range part = part.start < part.end → (range.start ≤ part.start) × (part.end ≤ range.end)

-- the place of a part in a list of the numbers of the range alone
pub record IsPlaceWithin (range part place : Span) : Type 0 where
  pub within : (ps : List ℕ) → HasSpan ps range → HasSpan ps part → HasSpan (span_of ps range) place
  pub same : (ps : List ℕ) → HasSpan ps range → HasSpan ps part → span_of (span_of ps range) place ≡ span_of ps part

-- ---- the parameters of joined rows

-- the part has the parameters of the row at a place
abbrev pub HasParametersOf : List ℕ → List ProtoNumbers → ℕ → Span → Type 0
HasParametersOf ps protos k s =
    HasSpan ps s × ((d : ProtoNumbers) → span_of ps s ≡ (slice_index_or protos k d).parameters)

-- the part at each place has the parameters of the row there
abbrev pub HaveParameters : List ℕ → List ProtoNumbers → List Span → Type 0
HaveParameters ps protos places =
    (k : ℕ) (d : Span) → k < length places → HasParametersOf ps protos k (slice_index_or places k d)

-- the part in a list that has what the part is of from a base on
abbrev pub shifted : ℕ → Span → Span
shifted base s = record { start = base + s.start; end = base + s.end }

-- each row's parameters, from a base on, are those of the row at its image
abbrev pub AreImages : List ℕ → List ProtoNumbers → ℕ → List ProtoEntry → List ℕ → Type 0
AreImages ps protos base rows images =
    (i : ℕ) (d : ProtoEntry) → i < length rows
    → HasParametersOf ps protos (slice_index images i) (shifted base (slice_index_or rows i d).parameters)

-- Each part at an image has the parameters of the row there if the rows have those of their images. A part at another
-- place has what it had.
pub record ArePlaced (base : ℕ) (rows : List ProtoEntry) (images : List ℕ) (old new : List Span) : Type 0 where
  pub count : length new ≡ length old
  pub kept : (ps : List ℕ) (protos : List ProtoNumbers) → AreImages ps protos base rows images → (k : ℕ) (d : Span)
      → HasParametersOf ps protos k (slice_index_or old k d) → HasParametersOf ps protos k (slice_index_or new k d)
  pub placed : (ps : List ℕ) (protos : List ProtoNumbers) → AreImages ps protos base rows images
      → All (λ k. (d : Span) → HasParametersOf ps protos k (slice_index_or new k d)) images

-- the rows are those of the tables, joined
abbrev pub AreTablesJoined : List Protos → Joined ProtoNumbers → Type 0
AreTablesJoined tables joined =
    IsJoin proto_key (map numbers_in tables) joined.rows.items (lists_in joined.images.items)
