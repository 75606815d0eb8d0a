-- When numbers fit their places once remapped.
use Rattle.std.specs.Prelude.{◌≡◌, ℕ, ◌+◌, ◌^◌, ◌<◌, ◌≤◌, Bool, true, false, not, ◌&&◌, if◌then◌else◌, List, [], ◌∷◌}
use Rattle.std.specs.Prelude.{length, drop, slice_index, All, Option, Some, None, IfSome}
use Rattle.std.specs.List.{Contains, flat_map}
use Rattle.dexspec.specs.Mentions.{Mentions}
use Rattle.dexspec.specs.Pieces.{Piece, is_wide_index, low_byte}
use Rattle.dexspec.specs.Pieces as symbolic
use Rattle.dexspec.specs.Symbols.{TextSymbol}
use Rattle.dexspec.specs.Texts.{Text}
use Rattle.dexpool.specs.declared.symbols.SymbolKind.{SymbolKind}
use Rattle.dexpool.specs.declared.symbols.SymbolKind.TheVariants as kinds
use Rattle.dexpool.specs.Numberings.{Maps, image}
use Rattle.dexinsn.specs.declared.pieces.Index.{Index}
use Rattle.dexinsn.specs.Numbered.{NumberedPiece, Instruction, kind_in}

-- ---- texts whose numbers have 16 bits

-- whether the kind is that of texts
abbrev pub is_text : SymbolKind → Bool
is_text kinds.Text = true
is_text _ = false

-- the index names a text and has 16 bits: it is that of a const-string, and not of a const-string/jumbo
abbrev pub is_short_string : List ℕ → Bool
is_short_string us = is_text (kind_in us) && not (is_wide_index us)

-- the number, if it is that of a short string
abbrev pub short_number : List ℕ → ℕ → List ℕ
short_number us n = if is_short_string us then n ∷ [] else []

-- the number of the short string that the piece names, if it does
abbrev pub short_string : NumberedPiece → List ℕ
short_string (Instruction us (Some n)) = short_number us n
short_string _ = []

-- those of all pieces, in order
abbrev pub short_strings : List NumberedPiece → List ℕ
short_strings ps = flat_map short_string ps

-- some piece is a const-string of the text, not a const-string/jumbo
pub record HasConstString (qs : List Piece) (s : Text) : Type 0 where
  pub units : List ℕ
  pub piece : Contains qs (symbolic.Instruction units (Some (TextSymbol s)))
  pub short : low_byte (slice_index units 0) ≡ 0x1a

-- the greatest of the numbers; there is none where there are no numbers
abbrev pub IsGreatest : List ℕ → Option ℕ → Type 0
IsGreatest ns None = ns ≡ []
IsGreatest ns (Some n) = Contains ns n × All (λ k. k ≤ n) ns

-- the number of the short string at an index, if it is one
abbrev pub short_at : List ℕ → Index → List ℕ
short_at us i = short_number (drop i.unit us) i.number

-- ---- maps into numberings that are not too large

-- the images of numbers are below 2^16, those of texts below 2^32 - 1
pub record ImagesFit (r : Maps) : Type 0 where
  pub texts_fit : (i j : ℕ) → image r.texts i ≡ Some j → j + 1 < 2 ^ 32
  pub types_fit : (i j : ℕ) → image r.types i ≡ Some j → j < 2 ^ 16
  pub protos_fit : (i j : ℕ) → image r.protos i ≡ Some j → j < 2 ^ 16
  pub fields_fit : (i j : ℕ) → image r.fields i ≡ Some j → j < 2 ^ 16
  pub methods_fit : (i j : ℕ) → image r.methods i ≡ Some j → j < 2 ^ 16

-- there are 2^16 symbols of a kind or fewer, and less than 2^32 texts
pub record IsNotTooLarge (m : Mentions) : Type 0 where
  pub texts_few : length m.texts < 2 ^ 32
  pub types_few : length m.types ≤ 2 ^ 16
  pub protos_few : length m.protos ≤ 2 ^ 16
  pub fields_few : length m.fields ≤ 2 ^ 16
  pub methods_few : length m.methods ≤ 2 ^ 16

-- the image of a text's number, if there is one, is below 2^16
abbrev pub MapsShort : Maps → Option ℕ → Type 0
MapsShort r o = IfSome o (λ n. (j : ℕ) → image r.texts n ≡ Some j → j < 2 ^ 16)
