-- Annotations and sets, as read.
use Rattle.std.specs.Prelude.{◌≡◌, ℕ, ◌+◌, ◌*◌, ◌%◌, List}
use Rattle.dexspec.specs.Bytes.{uint_at}
use Rattle.dexspec.specs.Sections.{IsInData}
use Rattle.dexspec.specs.Annotations.{Annotation, AnnotationSet, AnnotationAt, SetAt}
use Rattle.dexspec.specs.Mentions.{Mentions}
use Rattle.dexpool.specs.declared.faults.ItemFault.{ItemFault}
use Rattle.dexpool.specs.declared.faults.ItemFault.TheVariants.{Refused, Memory}
use Rattle.dexval.specs.Numbered.{NumberedAnnotation, IsKnownAnnotation, annotation_in}

-- an annotation_item of the annotation that the numbers denote is at the offset
pub record IsItemAt (b : List ℕ) (off : ℕ) (m : Mentions) (x : NumberedAnnotation) : Type 0 where
  pub known : IsKnownAnnotation m x
  pub at : AnnotationAt b off (annotation_in m x)

-- no annotation_item is at the offset
abbrev pub NoItemAt : List ℕ → ℕ → Type 0
NoItemAt b off = (a : Annotation) → AnnotationAt b off a → ⊥

-- no annotation_set_item is at the offset
abbrev pub NoSetAt : List ℕ → ℕ → Type 0
NoSetAt b off = (s : AnnotationSet) → SetAt b off s → ⊥

-- a count and that many offsets are inside the data, at a multiple of 4
pub record HasOffsets (b : List ℕ) (off : ℕ) : Type 0 where
  pub in_data : IsInData b off (4 + 4 * uint_at b off)
  pub aligned : off % 4 ≡ 0

-- a refusal has this number and says this; a failed allocation says nothing
abbrev pub Refuses : ℕ → Type 0 → ItemFault → Type 0
Refuses number P (Refused n) = (n ≡ number) × P
Refuses number P Memory = Unit {0}

-- a fault that refuses a part of a directory refuses the directory
abbrev pub IsRefusal : Type 0 → ItemFault → Type 0
IsRefusal = Refuses 22
