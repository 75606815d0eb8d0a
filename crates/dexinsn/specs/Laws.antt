-- Laws of numbered pieces, as the functions that do nothing state them.
use Rattle.std.specs.Prelude.{◌≡◌, ℕ, List, All, Option, map}
use Rattle.std.specs.List.{AllZip, Contains, flat_map}
use Rattle.dexspec.specs.Mentions.{Mentions, piece_symbols}
use Rattle.dexspec.specs.Pieces.{Piece}
use Rattle.dexspec.specs.Spellings.{piece_units}
use Rattle.dexspec.specs.Texts.{Text}
use Rattle.dexpool.specs.Numberings.{IsAt, AreRising, AreMarksOf, Maps, AllMapTo}
use Rattle.dexpool.specs.Orderly.{KeepOrder, MapsDown}
use Rattle.dexpool.specs.declared.marks.Marks.{Marks}
use Rattle.dexpool.specs.Uses.{IsUseOf, HasMark, IsMappedUse}
use Rattle.dexinsn.specs.Fitting.{HasConstString, ImagesFit, IsGreatest, MapsShort, short_strings}
use Rattle.dexinsn.specs.Numbered.{NumberedPiece, Denote, uses_of, numbered_units, FitPlaces, HasImage, HasPlace}
use Rattle.dexinsn.specs.Numbered.{renumbered_piece}

-- where symbols rise, the units of numbered pieces are those of the pieces that they denote
abbrev pub UnitsAreDenoted : Type 0
UnitsAreDenoted =
    (m : Mentions) (ps : List NumberedPiece) (qs : List Piece) → AreRising m → Denote m ps qs
    → flat_map numbered_units ps ≡ flat_map (piece_units m) qs

-- pieces that are renumbered denote what they denoted before
abbrev pub RenumberedDenote : Type 0
RenumberedDenote =
    (m n : Mentions) (r : Maps) (ps : List NumberedPiece) (qs : List Piece) → AllMapTo m n r → All (HasImage r) ps
    → Denote m ps qs → Denote n (map (renumbered_piece r) ps) qs

-- the symbols that occur are those of the pieces that are denoted, one for one
abbrev pub UsesAreDenoted : Type 0
UsesAreDenoted =
    (m : Mentions) (ps : List NumberedPiece) (qs : List Piece) → Denote m ps qs
    → AllZip (IsUseOf m) (uses_of ps) (flat_map piece_symbols qs)

-- where there is a mark for each symbol, there is one for each that occurs
abbrev pub UsesHaveMarks : Type 0
UsesHaveMarks =
    (m : Mentions) (marks : Marks) (ps : List NumberedPiece) (qs : List Piece) → AreMarksOf m marks → Denote m ps qs
    → All (HasMark marks) (uses_of ps)

-- numbers that fit, and that map to none that is greater, have images that fit
abbrev pub FitMappedDown : Type 0
FitMappedDown =
    (r : Maps) (ps : List NumberedPiece) → MapsDown r → FitPlaces ps → All (IsMappedUse r) (uses_of ps)
    → All (HasPlace r) ps

-- where the greatest number of a short string has an image that fits, and images elsewhere fit, all images fit
abbrev pub FitWhereGreatestDoes : Type 0
FitWhereGreatestDoes =
    (r : Maps) (ps : List NumberedPiece) (greatest : Option ℕ) → KeepOrder r → ImagesFit r
    → IsGreatest (short_strings ps) greatest → MapsShort r greatest → All (IsMappedUse r) (uses_of ps)
    → All (HasPlace r) ps

-- each text that a const-string names is numbered by a short string
abbrev pub ConstStringsAreShort : Type 0
ConstStringsAreShort =
    (m : Mentions) (ps : List NumberedPiece) (qs : List Piece) (s : Text) → Denote m ps qs → HasConstString qs s
    → (n : ℕ) × Contains (short_strings ps) n × IsAt m.texts n s

-- each short string is the number of a text that a const-string names
abbrev pub ShortStringsAreConst : Type 0
ShortStringsAreConst =
    (m : Mentions) (ps : List NumberedPiece) (qs : List Piece) (n : ℕ) → Denote m ps qs → Contains (short_strings ps) n
    → (s : Text) × IsAt m.texts n s × HasConstString qs s
