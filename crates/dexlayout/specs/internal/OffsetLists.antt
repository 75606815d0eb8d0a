-- Items that are lists of offsets: annotation sets, and lists of the sets of parameters.
use Rattle.std.specs.Prelude.{ℕ, ◌+◌, List, [], ◌∷◌, length, map, Option, Some}
use Rattle.std.specs.Borrow.{Bor}
use Rattle.std.specs.List.{flat_map}
use Rattle.std.specs.Option.{option_map}
use Rattle.dexspec.specs.Lists.{chunks}
use Rattle.dexspec.specs.Placing.{unless_empty}
use Rattle.dexspec.specs.Spellings.{offsets_bytes}
use Rattle.dexval.specs.declared.set.AnnotationSet.{AnnotationSet as CodeSet}
use Rattle.dexval.specs.Code.{set_of}
use Rattle.dexmembers.specs.Numbered.{NumberedMethod, methods_of}
use Rattle.dexclass.specs.Numbered.{NumberedClass}

-- the items of lists with these numbers of offsets, by the offsets of all
abbrev pub offset_lists : (List ℕ → Option (List ℕ)) → List ℕ → List ℕ → List (Option (List ℕ))
offset_lists item_of ns offs = map item_of (chunks ns offs)

-- how many offsets they have in all
abbrev pub total : List ℕ → ℕ
total [] = 0
total (n ∷ ns) = n + total ns

-- ---- sets

-- that of a set, by the offsets of its annotations
abbrev pub set_item : List ℕ → Option (List ℕ)
set_item offs = Some (offsets_bytes offs)

-- how many annotations sets have
abbrev pub annotation_counts : List (Bor CodeSet) → List ℕ
annotation_counts sets = map (λ s. length (set_of s.now)) sets

-- ---- lists of sets

-- that of a list, by the offsets of its sets, unless it is empty
abbrev pub list_item : List ℕ → Option (List ℕ)
list_item offs = option_map offsets_bytes (unless_empty offs)

-- how many parameters of methods have a set, if a method has a list
abbrev pub parameter_counts : List NumberedMethod → List ℕ
parameter_counts xs = map (λ x. length x.parameter_annotations) xs

-- the same of the methods of classes
abbrev pub class_parameter_counts : List NumberedClass → List ℕ
class_parameter_counts cs = flat_map (λ c. parameter_counts (methods_of c.members)) cs
