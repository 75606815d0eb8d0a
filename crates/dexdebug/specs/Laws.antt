-- Laws of numbered debug programs, as the functions that do nothing state them.
use Rattle.std.specs.Prelude.{◌≡◌, ◌↔◌, All}
use Rattle.std.specs.List.{AllZip}
use Rattle.dexspec.specs.Debug as debugs
use Rattle.dexspec.specs.Mentions.{Mentions, debug_symbols}
use Rattle.dexspec.specs.Spellings.{debug_bytes}
use Rattle.dexspec.specs.Weight.{debug_weight}
use Rattle.dexpool.specs.Numberings.{AreRising, AreMarksOf, Maps, AllMapTo}
use Rattle.dexpool.specs.declared.marks.Marks.{Marks}
use Rattle.dexpool.specs.Uses.{HasMark, IsUseOf, IsMappedUse}
use Rattle.dexdebug.specs.Debug.{NumberedDebug, HasPlace, unindexed, numbered_debug_bytes, debug_uses, renumbered_debug}
use Rattle.dexdebug.specs.Meaning.{debug_in, IsKnownDebug, DenotesDebug}
use Rattle.dexdebug.specs.Positions as recorded

-- where symbols rise, the bytes of a numbered debug program are those of the program that it denotes
abbrev pub DebugBytesAreDenoted : Type 0
DebugBytesAreDenoted =
    (m : Mentions) (d : NumberedDebug) (x : debugs.Debug) → AreRising m → DenotesDebug m d x
    → numbered_debug_bytes d ≡ debug_bytes m x

-- a numbered debug program weighs as much as the program that it denotes
abbrev pub DebugWeightIsDenoted : Type 0
DebugWeightIsDenoted =
    (m : Mentions) (d : NumberedDebug) (x : debugs.Debug) → DenotesDebug m d x
    → debug_weight (unindexed d) ≡ debug_weight x

-- it has the positions of the program that it denotes
abbrev pub DebugPositionsAreDenoted : Type 0
DebugPositionsAreDenoted =
    (m : Mentions) (d : NumberedDebug) (x : debugs.Debug) → DenotesDebug m d x
    → recorded.positions (unindexed d) ≡ recorded.positions x

-- a debug program that is renumbered denotes what it denoted before
abbrev pub RenumberedDebugDenotes : Type 0
RenumberedDebugDenotes =
    (m n : Mentions) (r : Maps) (d : NumberedDebug) (x : debugs.Debug) → AllMapTo m n r
    → All (IsMappedUse r) (debug_uses d) → DenotesDebug m d x → DenotesDebug n (renumbered_debug r d) x

-- numbers in a debug program that have places have images
abbrev pub DebugPlacesAreImages : Type 0
DebugPlacesAreImages =
    (r : Maps) (d : NumberedDebug) → All (HasPlace r) (debug_uses d) → All (IsMappedUse r) (debug_uses d)

-- the symbols that occur in a debug program are those of the program that it denotes, one for one
abbrev pub DebugUsesAreDenoted : Type 0
DebugUsesAreDenoted =
    (m : Mentions) (d : NumberedDebug) (x : debugs.Debug) → DenotesDebug m d x
    → AllZip (IsUseOf m) (debug_uses d) (debug_symbols x)

-- where there is a mark for each symbol, there is one for each that occurs in a debug program
abbrev pub DebugUsesHaveMarks : Type 0
DebugUsesHaveMarks =
    (m : Mentions) (marks : Marks) (d : NumberedDebug) (x : debugs.Debug) → AreMarksOf m marks → DenotesDebug m d x
    → All (HasMark marks) (debug_uses d)

-- a debug program that denotes one has the numbers of texts and types
abbrev pub DenotingDebugIsKnown : Type 0
DenotingDebugIsKnown = (m : Mentions) (d : NumberedDebug) (x : debugs.Debug) → DenotesDebug m d x → IsKnownDebug m d

-- what it denotes has these texts and types for the numbers
abbrev pub DenotedDebugIsMeant : Type 0
DenotedDebugIsMeant = (m : Mentions) (d : NumberedDebug) (x : debugs.Debug) → DenotesDebug m d x → x ≡ debug_in m d

-- where each number has an image, a debug program that is renumbered has the numbers of texts and types, the same ones
abbrev pub RemappedDebugIsMeant : Type 0
RemappedDebugIsMeant =
    (m n : Mentions) (r : Maps) (d : NumberedDebug) → AllMapTo m n r → All (IsMappedUse r) (debug_uses d)
    → IsKnownDebug m d → IsKnownDebug n (renumbered_debug r d) × (debug_in n (renumbered_debug r d) ≡ debug_in m d)

-- debug programs of two numberings are equal once remapped to a third whose symbols rise just where they mean the same
abbrev pub EqualRemappedDebugs : Type 0
EqualRemappedDebugs =
    (m n whole : Mentions) (r s : Maps) (d e : NumberedDebug) → AreRising whole → AllMapTo m whole r
    → AllMapTo n whole s → All (IsMappedUse r) (debug_uses d) → All (IsMappedUse s) (debug_uses e) → IsKnownDebug m d
    → IsKnownDebug n e → (renumbered_debug r d ≡ renumbered_debug s e) ↔ (debug_in m d ≡ debug_in n e)
