-- The statements of the laws of classes.
use Rattle.std.specs.Prelude.{◌≡◌, ◌↔◌, List, map, All}
use Rattle.std.specs.List.{AllZip}
use Rattle.dexspec.specs.Mentions.{Mentions, symbols_of}
use Rattle.dexspec.specs.Files.{Collection, IsCollectionOf, definitions}
use Rattle.dexspec.specs.Merging.{Caps, IsGood, Plan, union}
use Rattle.dexspec.specs.Stripping.{strip_collection}
use Rattle.dexlaws.specs.Strip.{StripCommutes}
use Rattle.dexpool.specs.Laws.{MapsAll}
use Rattle.dexpool.specs.Numberings.{AreRising, AreMarksOf, AllMapTo, Maps}
use Rattle.dexpool.specs.Uses.{HasMark, IsUseOf}
use Rattle.dexpool.specs.declared.marks.Marks.{Marks}
use Rattle.dexclass.specs.Numbered.{NumberedClass, definition_of}
use Rattle.dexclass.specs.Uses.{IsKnownClass, class_uses}
use Rattle.dexclass.specs.Renumbering.{renumbered_class, IsMappedClass, StaysSame, IsPartClass}

-- what occurs in a class are the symbols of what it denotes, one for one and in their order
abbrev pub ClassUsesAreSymbols : Type 0
ClassUsesAreSymbols =
    (m : Mentions) (c : NumberedClass) → AreRising m → IsKnownClass m c
    → AllZip (IsUseOf m) (class_uses c) (symbols_of (definition_of m c))

-- where there is a mark for each symbol, there is one for each that occurs in a class
abbrev pub ClassUsesHaveMarks : Type 0
ClassUsesHaveMarks =
    (m : Mentions) (marks : Marks) (c : NumberedClass) → AreMarksOf m marks → IsKnownClass m c
    → All (HasMark marks) (class_uses c)

-- a class of which each symbol is mapped denotes the same definition
abbrev pub MappedStaysSame : Type 0
MappedStaysSame =
    (m n : Mentions) (r : Maps) (c : NumberedClass) → AllMapTo m n r → IsMappedClass r c → IsKnownClass m c
    → StaysSame m n r c

-- where all symbols have images, those of a class do
abbrev pub AllAreMapped : Type 0
AllAreMapped =
    (m : Mentions) (r : Maps) (c : NumberedClass) → AreRising m → MapsAll m r → IsKnownClass m c → IsMappedClass r c

-- classes denote the same definition if and only if they are mapped to the same class
abbrev pub SameOnceMapped : Type 0
SameOnceMapped =
    (m n whole : Mentions) (r s : Maps) (c d : NumberedClass) → AreRising whole → IsPartClass whole m r c
    → IsPartClass whole n s d → (renumbered_class r c ≡ renumbered_class s d) ↔ (definition_of m c ≡ definition_of n d)

-- what is good under caps stays so without debug programs and source texts
abbrev pub StrippedStaysGood : Collection → Type 0
StrippedStaysGood K = (caps : Caps) → IsGood caps (definitions K) → IsGood caps (definitions (strip_collection K))

-- stripped collections merge by the plan of the whole ones, to what is left of their union
abbrev pub StripCommutesWithMerge : Type 0
StripCommutesWithMerge =
    (caps : Caps) (Ks : List Collection) (plan : Plan) (K : Collection)
    → IsCollectionOf (union (map definitions Ks) plan) K → StripCommutes caps Ks plan K
