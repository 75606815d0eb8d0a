-- Classes whose numbers are mapped to those of another numbering.
use Rattle.std.specs.Prelude.{◌≡◌, ℕ, List, map, All, Option, unwrap_or}
use Rattle.std.specs.Option.{option_map}
use Rattle.dexspec.specs.Mentions.{Mentions}
use Rattle.dexpool.specs.Numberings.{Maps, AllMapTo, image}
use Rattle.dexpool.specs.Laws.{MapsAll}
use Rattle.dexpool.specs.Uses.{IsMappedUse}
use Rattle.dexmembers.specs.Renumbering.{renumbered_members, MembersHavePlaces}
use Rattle.dexclass.specs.Numbered.{NumberedClass, definition_of}
use Rattle.dexclass.specs.Uses.{class_uses, IsKnownClass}

-- the image of a number; one that has no image stays
abbrev pub image_or_same : List (Option ℕ) → ℕ → ℕ
image_or_same images i = unwrap_or (image images i) i

-- numbers of types, each remapped
abbrev pub remapped_types : Maps → List ℕ → List ℕ
remapped_types r numbers = map (image_or_same r.types) numbers

-- the class with each number remapped
abbrev pub renumbered_class : Maps → NumberedClass → NumberedClass
renumbered_class r c = record {
  name = image_or_same r.types c.name;
  flags = c.flags;
  superclass = option_map (image_or_same r.types) c.superclass;
  interfaces = map (image_or_same r.types) c.interfaces;
  source = option_map (image_or_same r.texts) c.source;
  members = renumbered_members r c.members;
  weight = c.weight;
}

-- each number in what the class declares maps to one that fits its place; the others have room for any
abbrev pub ClassHasPlaces : Maps → NumberedClass → Type 0
ClassHasPlaces r c = MembersHavePlaces r c.members

-- each symbol that occurs in the class has an image
abbrev pub IsMappedClass : Maps → NumberedClass → Type 0
IsMappedClass r c = All (IsMappedUse r) (class_uses c)

-- each number of the first numbering maps to that of the same symbol in the second
pub record MapsAllInto (m n : Mentions) (r : Maps) : Type 0 where
  pub are_mapped : AllMapTo m n r
  pub all : MapsAll m r

-- remapped, the class denotes the same definition, by numbers of the second numbering
pub record StaysSame (m n : Mentions) (r : Maps) (c : NumberedClass) : Type 0 where
  pub same : definition_of n (renumbered_class r c) ≡ definition_of m c
  pub known : IsKnownClass n (renumbered_class r c)

-- the class's numbers are those of symbols, and each symbol that occurs maps to the same one of the whole
pub record IsPartClass (whole m : Mentions) (r : Maps) (c : NumberedClass) : Type 0 where
  pub are_mapped : AllMapTo m whole r
  pub remapped : IsMappedClass r c
  pub known : IsKnownClass m c
