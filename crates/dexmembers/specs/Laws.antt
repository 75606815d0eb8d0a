-- Laws of what classes declare, as the functions that do nothing state them.
use Rattle.std.specs.Prelude.{◌≡◌, ◌↔◌, ℕ, List, All, Option, Some, length, map, slice_index}
use Rattle.std.specs.List.{AllZip}
use Rattle.dexspec.specs.Classes.{Body}
use Rattle.dexspec.specs.Mentions.{Mentions}
use Rattle.dexspec.specs.Placing.{SetOffsets, directory_bytes}
use Rattle.dexspec.specs.Spellings.{class_data_bytes}
use Rattle.dexspec.specs.Texts.{Text}
use Rattle.dexpool.specs.Numberings.{AreRising, AreMarksOf, Maps, AllMapTo}
use Rattle.dexpool.specs.Orderly.{KeepOrder, MapsDown}
use Rattle.dexpool.specs.Uses.{HasMark, IsMappedUse, IsUseOf}
use Rattle.dexpool.specs.declared.marks.Marks.{Marks}
use Rattle.dexinsn.specs.Fitting.{ImagesFit, IsGreatest, MapsShort}
use Rattle.dexmembers.specs.DirectoryPut.{numbered_directory_bytes}
use Rattle.dexmembers.specs.Fitting.{NumbersFit, members_short_strings}
use Rattle.dexmembers.specs.Numbered.{NumberedMembers, AreKnownMembers, AreOfClass, AreOrdered, fields_of, methods_of}
use Rattle.dexmembers.specs.Numbered.{members_in, members_of}
use Rattle.dexmembers.specs.Renumbering.{MembersHavePlaces, renumbered_members}
use Rattle.dexmembers.specs.Spelled.{numbered_class_data_bytes}
use Rattle.dexmembers.specs.Stripped.{method_tries, strip_members, stripped_members}
use Rattle.dexmembers.specs.Uses.{members_symbols, members_uses}
use Rattle.dexmembers.specs.Weighing.{numbered_members_weight}
use Rattle.dexmembers.specs.Weight.{members_weight}

-- ---- what is written

-- where symbols rise, the class data of members is that of the class definition that they denote
abbrev pub ClassDataIsDenoted : Type 0
ClassDataIsDenoted =
    (m : Mentions) (name : Text) (c : Body) (x : NumberedMembers) (code_offs : List ℕ) → AreRising m
    → AreKnownMembers m x → AreOfClass m name x → members_of c ≡ members_in m x
    → numbered_class_data_bytes x code_offs ≡ class_data_bytes m (name, c) code_offs

-- where symbols rise, the annotations directory of members is that of the class definition that they denote
abbrev pub DirectoryIsDenoted : Type 0
DirectoryIsDenoted =
    (m : Mentions) (name : Text) (c : Body) (x : NumberedMembers) (own_off : ℕ)
    (field_offs method_offs parameter_offs : List ℕ) (sets : SetOffsets) (item : List ℕ) → AreRising m
    → AreKnownMembers m x → AreOrdered x → AreOfClass m name x → members_of c ≡ members_in m x
    → length field_offs ≡ length (fields_of x) → length method_offs ≡ length (methods_of x)
    → length parameter_offs ≡ length (methods_of x) → sets.own ≡ own_off → sets.fields ≡ field_offs
    → map (λ offs. slice_index offs 0) sets.methods ≡ method_offs
    → directory_bytes m (name, c) sets parameter_offs ≡ Some item
    → numbered_directory_bytes x own_off field_offs method_offs parameter_offs ≡ item

-- ---- other numbers

-- where each number has an image, members that are renumbered denote what they denoted before
abbrev pub RemappedMembersAreMeant : Type 0
RemappedMembersAreMeant =
    (m n : Mentions) (r : Maps) (x : NumberedMembers) → AllMapTo m n r → All (IsMappedUse r) (members_uses x)
    → AreKnownMembers m x
    → AreKnownMembers n (renumbered_members r x) × (members_in n (renumbered_members r x) ≡ members_in m x)

-- they are in order where they were
abbrev pub RemappedMembersAreOrdered : Type 0
RemappedMembersAreOrdered =
    (m n : Mentions) (r : Maps) (x : NumberedMembers) → AllMapTo m n r → All (IsMappedUse r) (members_uses x)
    → AreOrdered x → AreOrdered (renumbered_members r x)

-- they are of the class that they were of
abbrev pub RemappedMembersAreOfClass : Type 0
RemappedMembersAreOfClass =
    (m n : Mentions) (r : Maps) (name : Text) (x : NumberedMembers) → AllMapTo m n r
    → All (IsMappedUse r) (members_uses x) → AreOfClass m name x → AreOfClass n name (renumbered_members r x)

-- members of classes of one name in two numberings are equal once remapped to a third whose symbols rise just where
-- they denote the same
abbrev pub EqualRemappedMembers : Type 0
EqualRemappedMembers =
    (m n whole : Mentions) (r s : Maps) (name : Text) (x y : NumberedMembers) → AreRising whole → AllMapTo m whole r
    → AllMapTo n whole s → All (IsMappedUse r) (members_uses x) → All (IsMappedUse s) (members_uses y)
    → AreKnownMembers m x → AreKnownMembers n y → AreOfClass m name x → AreOfClass n name y
    → (renumbered_members r x ≡ renumbered_members s y) ↔ (members_in m x ≡ members_in n y)

-- numbers of members that fit, and that map to none that is greater, have images that fit
abbrev pub MembersFitMappedDown : Type 0
MembersFitMappedDown =
    (r : Maps) (x : NumberedMembers) → MapsDown r → NumbersFit x → All (IsMappedUse r) (members_uses x)
    → MembersHavePlaces r x

-- where the greatest number of a short string has an image that fits, and images elsewhere fit, all images fit
abbrev pub MembersFitWhereGreatestDoes : Type 0
MembersFitWhereGreatestDoes =
    (r : Maps) (x : NumberedMembers) (greatest : Option ℕ) → KeepOrder r → ImagesFit r
    → IsGreatest (members_short_strings x) greatest → MapsShort r greatest → All (IsMappedUse r) (members_uses x)
    → MembersHavePlaces r x

-- ---- without debug programs

-- members without their debug programs denote what they denoted before, without debug programs
abbrev pub StrippedMembersAreMeant : Type 0
StrippedMembersAreMeant =
    (m : Mentions) (x : NumberedMembers) → members_in m (stripped_members x) ≡ strip_members (members_in m x)

-- they stay known to a numbering
abbrev pub StrippedMembersAreKnown : Type 0
StrippedMembersAreKnown =
    (m : Mentions) (x : NumberedMembers) → AreKnownMembers m x → AreKnownMembers m (stripped_members x)

-- they stay of their class
abbrev pub StrippedMembersAreOfClass : Type 0
StrippedMembersAreOfClass =
    (m : Mentions) (class : Text) (x : NumberedMembers) → AreOfClass m class x → AreOfClass m class (stripped_members x)

-- the numbers of texts that a const-string names are the same
abbrev pub StrippedMembersKeepShortStrings : Type 0
StrippedMembersKeepShortStrings =
    (x : NumberedMembers) → members_short_strings (stripped_members x) ≡ members_short_strings x

-- each method keeps its tries
abbrev pub StrippedMembersKeepTries : Type 0
StrippedMembersKeepTries =
    (x : NumberedMembers) → map method_tries (methods_of (stripped_members x)) ≡ map method_tries (methods_of x)

-- ---- the symbols that occur

-- where symbols rise, those that occur are those of what the numbers denote, one for one
abbrev pub MembersUsesAreDenoted : Type 0
MembersUsesAreDenoted =
    (m : Mentions) (name : Text) (x : NumberedMembers) → AreRising m → AreKnownMembers m x → AreOfClass m name x
    → AllZip (IsUseOf m) (members_uses x) (members_symbols name (members_in m x))

-- where there is a mark for each symbol, there is one for each that occurs
abbrev pub MembersUsesHaveMarks : Type 0
MembersUsesHaveMarks =
    (m : Mentions) (marks : Marks) (x : NumberedMembers) → AreMarksOf m marks → AreKnownMembers m x
    → All (HasMark marks) (members_uses x)

-- ---- weight

-- where symbols rise, members by their numbers weigh as much as what they denote
abbrev pub MembersWeightIsDenoted : Type 0
MembersWeightIsDenoted =
    (m : Mentions) (x : NumberedMembers) → AreRising m → AreKnownMembers m x
    → numbered_members_weight x ≡ members_weight (members_in m x)
