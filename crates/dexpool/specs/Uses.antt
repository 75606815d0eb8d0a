-- The symbols that occur in parts of code, values and classes, by their numbers, and marks on them.
use Rattle.std.specs.Prelude.{◌≡◌, ℕ, ◌<◌, Bool, true, false, ◌||◌, ◌&&◌, ◌==◌, List, length, slice_index_or, IsSome}
use Rattle.std.specs.List.{list_any}
use Rattle.dexspec.specs.Symbols.{Symbol}
use Rattle.dexspec.specs.Mentions.{Mentions}
use Rattle.dexpool.specs.declared.symbols.SymbolKind.{SymbolKind}
use Rattle.dexpool.specs.declared.symbols.SymbolKind.TheVariants as kinds
use Rattle.dexpool.specs.declared.marks.Marks.{Marks}
use Rattle.dexpool.specs.Numberings.{IsNumbered, IsOfKind, Maps, image_of}

-- A symbol that occurs, by its kind and its number.
pub record Use : Type 0 where
  pub kind : SymbolKind
  pub number : ℕ

-- the symbol is the one that occurs
abbrev pub IsUseOf : Mentions → Use → Symbol → Type 0
IsUseOf m u s = IsNumbered m u.number s × IsOfKind u.kind s

-- the marks of a kind
abbrev pub marks_of : SymbolKind → Marks → List Bool
marks_of kinds.Text marks = marks.strings.items
marks_of kinds.Typ marks = marks.types.items
marks_of kinds.Proto marks = marks.protos.items
marks_of kinds.Field marks = marks.fields.items
marks_of kinds.Method marks = marks.methods.items

-- there is a mark for it
abbrev pub HasMark : Marks → Use → Type 0
HasMark marks u = u.number < length (marks_of u.kind marks)

-- whether the two kinds are one
abbrev pub same_kind : SymbolKind → SymbolKind → Bool
same_kind kinds.Text kinds.Text = true
same_kind kinds.Typ kinds.Typ = true
same_kind kinds.Proto kinds.Proto = true
same_kind kinds.Field kinds.Field = true
same_kind kinds.Method kinds.Method = true
same_kind _ _ = false

-- whether the symbol of a kind and a number is one that occurs
abbrev pub occurs : List Use → SymbolKind → ℕ → Bool
occurs us kind i = list_any (λ u. same_kind u.kind kind && u.number == i) us

-- The marks are the old ones and those of what occurs.
pub record AreMarkedToo (us : List Use) (old new : Marks) : Type 0 where
  pub count : (kind : SymbolKind) → length (marks_of kind new) ≡ length (marks_of kind old)
  pub each : (kind : SymbolKind) (i : ℕ)
      → slice_index_or (marks_of kind new) i false ≡ (slice_index_or (marks_of kind old) i false || occurs us kind i)

-- it is marked
abbrev pub IsMarkedUse : Marks → Use → Type 0
IsMarkedUse marks u = slice_index_or (marks_of u.kind marks) u.number false ≡ true

-- its number has an image
abbrev pub IsMappedUse : Maps → Use → Type 0
IsMappedUse r u = IsSome (image_of r u.kind u.number)

-- each number that is marked has an image
abbrev pub MapsMarked : Marks → Maps → Type 0
MapsMarked marks r =
    (kind : SymbolKind) (i : ℕ) → slice_index_or (marks_of kind marks) i false ≡ true → IsSome (image_of r kind i)
