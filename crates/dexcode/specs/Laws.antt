-- Laws of numbered code and debug programs, as the functions that do nothing state them.
use Rattle.std.specs.Prelude.{◌≡◌, ◌↔◌, ℕ, ◌+◌, ◌^◌, ◌<◌, ◌≤◌, List, All, Option, length}
use Rattle.std.specs.List.{AllZip}
use Rattle.dexspec.specs.Code as codes
use Rattle.dexspec.specs.Mentions.{Mentions, closed, code_symbols}
use Rattle.dexspec.specs.Spellings.{code_bytes}
use Rattle.dexspec.specs.Weight.{code_weight}
use Rattle.dexpool.specs.Numberings.{AreRising, AreMarksOf, Maps, AllMapTo, marked}
use Rattle.dexpool.specs.Laws.{MapsAll}
use Rattle.dexpool.specs.Orderly.{KeepOrder, MapsDown}
use Rattle.dexpool.specs.Pools.{count_of}
use Rattle.dexpool.specs.declared.symbols.SymbolKind.{SymbolKind}
use Rattle.dexpool.specs.declared.marks.Marks.{Marks}
use Rattle.dexpool.specs.Uses.{Use, HasMark, IsUseOf, IsMappedUse, IsMarkedUse}
use Rattle.dexinsn.specs.Fitting.{ImagesFit, IsGreatest, MapsShort, short_strings}
use Rattle.dexinsn.specs.Numbered as pieces
use Rattle.dexcode.specs.CodePut.{HasShortTypes, numbered_code_bytes, numbered_code_weight}
use Rattle.dexdebug.specs.Debug.{NumberedDebug, IsFormedDebug, HasPlace, debug_uses}
use Rattle.dexcode.specs.Meaning.{code_in, IsKnownCode, DenotesCode}
use Rattle.dexcode.specs.Numbered.{NumberedItem, handlers_of}
use Rattle.dexcode.specs.Renumbering.{item_uses, HasPlaces, HasImages, NumbersFit, renumbered_item}

-- ---- the bytes of code

-- where symbols rise, the bytes of numbered code are those of the code that it denotes
abbrev pub CodeBytesAreDenoted : Type 0
CodeBytesAreDenoted =
    (m : Mentions) (debug_off : ℕ) (c : NumberedItem) (x : codes.Code) → AreRising m → DenotesCode m c x
    → numbered_code_bytes debug_off c ≡ code_bytes m debug_off x

-- where caught types are short, the bytes of code are at least 3 fewer than it weighs
abbrev pub CodeBytesAreFewer : Type 0
CodeBytesAreFewer =
    (debug_off : ℕ) (c : NumberedItem) → All HasShortTypes (handlers_of c.tries)
    → length (numbered_code_bytes debug_off c) + 3 ≤ numbered_code_weight c

-- where symbols rise, numbered code weighs as much as the code that it denotes
abbrev pub CodeWeightIsDenoted : Type 0
CodeWeightIsDenoted =
    (m : Mentions) (c : NumberedItem) (x : codes.Code) → AreRising m → DenotesCode m c x
    → numbered_code_weight c ≡ code_weight x

-- where there are 2^16 types or fewer, caught types are short
abbrev pub CaughtTypesAreShort : Type 0
CaughtTypesAreShort =
    (m : Mentions) (c : NumberedItem) (x : codes.Code) → DenotesCode m c x → length m.types ≤ 2 ^ 16
    → All HasShortTypes (handlers_of c.tries)

-- ---- the numbers in code

-- code that is renumbered denotes what it denoted before
abbrev pub RenumberedCodeDenotes : Type 0
RenumberedCodeDenotes =
    (m n : Mentions) (r : Maps) (c : NumberedItem) (x : codes.Code) → AllMapTo m n r → HasImages r c → DenotesCode m c x
    → DenotesCode n (renumbered_item r c) x

-- where each number of a numbering has an image, those in code do
abbrev pub MappedCodeHasImages : Type 0
MappedCodeHasImages =
    (m : Mentions) (r : Maps) (c : NumberedItem) (x : codes.Code) → MapsAll m r → DenotesCode m c x → HasImages r c

-- in a numbering of less than 2^32 symbols of each kind, numbers in code have places where those of its instructions do
abbrev pub CodeHasPlaces : Type 0
CodeHasPlaces =
    (m n : Mentions) (r : Maps) (c : NumberedItem) → AllMapTo m n r → ((kind : SymbolKind) → count_of kind n < 2 ^ 32)
    → All (pieces.HasPlace r) c.body.pieces → HasImages r c → HasPlaces r c

-- where the symbols that are marked, and those that they name, are kept, each that is marked has an image
abbrev pub MarkedUsesHaveImages : Type 0
MarkedUsesHaveImages =
    (m : Mentions) (marks : Marks) (r : Maps) (us : List Use) → AreMarksOf m marks
    → AllMapTo m (closed (marked m marks)) r → All (IsMarkedUse marks) us → All (IsMappedUse r) us

-- numbers in code that fit, and that map to none that is greater, have images that fit
abbrev pub CodeFitsMappedDown : Type 0
CodeFitsMappedDown =
    (r : Maps) (c : NumberedItem) → MapsDown r → NumbersFit c → All (IsMappedUse r) (item_uses c) → HasPlaces r c

-- where the greatest number of a short string has an image that fits, and images elsewhere fit, all images in code fit
abbrev pub CodeFitsWhereGreatestDoes : Type 0
CodeFitsWhereGreatestDoes =
    (r : Maps) (c : NumberedItem) (greatest : Option ℕ) → KeepOrder r → ImagesFit r
    → IsGreatest (short_strings c.body.pieces) greatest → MapsShort r greatest → All (IsMappedUse r) (item_uses c)
    → HasPlaces r c

-- where symbols rise, those that occur in code are those of the code that it denotes, one for one
abbrev pub CodeUsesAreDenoted : Type 0
CodeUsesAreDenoted =
    (m : Mentions) (c : NumberedItem) (x : codes.Code) → AreRising m → DenotesCode m c x
    → AllZip (IsUseOf m) (item_uses c) (code_symbols x)

-- where there is a mark for each symbol, there is one for each that occurs in code
abbrev pub CodeUsesHaveMarks : Type 0
CodeUsesHaveMarks =
    (m : Mentions) (marks : Marks) (c : NumberedItem) (x : codes.Code) → AreMarksOf m marks → DenotesCode m c x
    → All (HasMark marks) (item_uses c)

-- ---- debug programs

-- numbers in a debug program that fit, and that map to none that is greater, have images that fit
abbrev pub DebugFitsMappedDown : Type 0
DebugFitsMappedDown =
    (r : Maps) (d : NumberedDebug) → MapsDown r → IsFormedDebug d → All (IsMappedUse r) (debug_uses d)
    → All (HasPlace r) (debug_uses d)

-- where images fit, those of numbers in a debug program do
abbrev pub DebugFitsWhereImagesDo : Type 0
DebugFitsWhereImagesDo =
    (r : Maps) (d : NumberedDebug) → ImagesFit r → All (IsMappedUse r) (debug_uses d) → All (HasPlace r) (debug_uses d)

-- ---- what they mean

-- where each number has an image, code that is renumbered has the numbers of symbols, the same ones
abbrev pub RemappedCodeIsMeant : Type 0
RemappedCodeIsMeant =
    (m n : Mentions) (r : Maps) (c : NumberedItem) → AllMapTo m n r → HasImages r c → IsKnownCode m c
    → IsKnownCode n (renumbered_item r c) × (code_in n (renumbered_item r c) ≡ code_in m c)

-- code of two numberings is equal once remapped to a third whose symbols rise just where it means the same
abbrev pub EqualRemappedCode : Type 0
EqualRemappedCode =
    (m n whole : Mentions) (r s : Maps) (c d : NumberedItem) → AreRising whole → AllMapTo m whole r → AllMapTo n whole s
    → HasImages r c → HasImages s d → IsKnownCode m c → IsKnownCode n d
    → (renumbered_item r c ≡ renumbered_item s d) ↔ (code_in m c ≡ code_in n d)
