-- The annotations of sets, set by set.
use Rattle.std.specs.Prelude.{ℕ, List, map, Option, Some}
use Rattle.std.specs.Borrow.{Bor}
use Rattle.std.specs.List.{flat_map}
use Rattle.dexspec.specs.Mentions.{Mentions}
use Rattle.dexspec.specs.Spellings.{annotation_bytes}
use Rattle.dexval.specs.declared.set.AnnotationSet.{AnnotationSet as CodeSet}
use Rattle.dexval.specs.Code.{set_of}
use Rattle.dexval.specs.Numbered.{NumberedAnnotation, NumberedSet, annotation_in}

-- the annotation_item of numbers
abbrev pub annotation_item : Mentions → NumberedAnnotation → List ℕ
annotation_item m a = annotation_bytes m (annotation_in m a)

-- those of a set
abbrev pub annotation_items : Mentions → NumberedSet → List (Option (List ℕ))
annotation_items m s = map (λ a. Some (annotation_item m a)) s

-- those of sets
abbrev pub set_annotations : Mentions → List (Bor CodeSet) → List (Option (List ℕ))
set_annotations m sets = flat_map (λ s. annotation_items m (set_of s.now)) sets
