-- The uses of type lists and sets, as they are found: by numbers, with what these denote.
use Rattle.std.specs.Prelude.{ℕ, ◌<◌, List, ◌∷◌, ◌++◌, Option, length, map, All}
use Rattle.std.specs.Borrow.{Bor}
use Rattle.std.specs.List.{flat_map}
use Rattle.dexspec.specs.Texts.{Text}
use Rattle.dexspec.specs.Annotations.{AnnotationSet}
use Rattle.dexspec.specs.Mentions.{Mentions}
use Rattle.dexspec.specs.Placing.{unless_empty}
use Rattle.dexval.specs.declared.set.AnnotationSet.{AnnotationSet as CodeSet}
use Rattle.dexval.specs.Code.{set_of}
use Rattle.dexval.specs.Equality.{equal_sets}
use Rattle.dexval.specs.Numbered.{NumberedSet, set_in, type_at, IsKnownSet}
use Rattle.dexmembers.specs.Numbered.{NumberedField, NumberedMethod, NumberedMembers}
use Rattle.dexclass.specs.Numbered.{NumberedClass}
use Rattle.dexlayout.specs.ListKeys.{same_numbers}
use Rattle.dexlayout.specs.internal.Sharing.{SharedTo}

-- ---- type lists

-- the numbers are those of types
abbrev pub AreTypes : Mentions → List ℕ → Type 0
AreTypes m ns = All (λ i. i < length m.types) ns

-- the type lists so far are those of these uses
abbrev pub SharesLists : Mentions → List (Option (List Text)) → List (List ℕ) → List (Option ℕ) → Type 0
SharesLists m = SharedTo same_numbers (map (type_at m)) (AreTypes m)

-- the interfaces of a class
abbrev pub interfaces_use : Mentions → NumberedClass → Option (List Text)
interfaces_use m c = unless_empty (map (type_at m) c.interfaces)

-- ---- sets

-- the sets so far are those of these uses
abbrev pub SharesSets : Mentions → List (Option AnnotationSet) → List (Bor CodeSet) → List (Option ℕ) → Type 0
SharesSets m =
    SharedTo (λ s t. equal_sets s.now t.now) (λ s. set_in m (set_of s.now)) (λ s. IsKnownSet m (set_of s.now))

-- what a set is used for
abbrev pub set_use : Mentions → NumberedSet → Option AnnotationSet
set_use m s = unless_empty (set_in m s)

-- those of fields
abbrev pub field_uses : Mentions → List NumberedField → List (Option AnnotationSet)
field_uses m fs = map (λ f. set_use m f.annotations) fs

-- those of a method: its own, and those of its parameters
abbrev pub method_uses : Mentions → NumberedMethod → List (Option AnnotationSet)
method_uses m x = set_use m x.annotations ∷ map (set_use m) x.parameter_annotations

-- those of methods
abbrev pub methods_uses : Mentions → List NumberedMethod → List (Option AnnotationSet)
methods_uses m xs = flat_map (method_uses m) xs

-- those of a class and of what it declares
abbrev pub members_uses : Mentions → NumberedMembers → List (Option AnnotationSet)
members_uses m x =
    set_use m x.annotations
    ∷ (field_uses m x.static_fields
    ++ (field_uses m x.instance_fields ++ (methods_uses m x.direct_methods ++ methods_uses m x.virtual_methods)))
