-- What the writers of values, annotations and sets append: its bytes, size and weight, and the capacity that is enough.
use Rattle.std.specs.Prelude.{◌≡◌, ℕ, ◌+◌, ◌-◌, ◌^◌, ◌<◌, ◌≤◌, min, List, Result, length, map, vec_len, vec_capacity}
use Rattle.std.specs.Global.{Vec}
use Rattle.dexspec.specs.Annotations.{Annotation as AnnotationMeant, AnnotationSet as SetMeant}
use Rattle.dexspec.specs.Mentions.{Mentions}
use Rattle.dexspec.specs.Placing.{offsets_from}
use Rattle.dexspec.specs.Spellings.{value_bytes, encoded_array_bytes, annotation_bytes, offsets_bytes}
use Rattle.dexspec.specs.Values.{Value as ValueMeant, Values as ValuesMeant}
use Rattle.dexspec.specs.Weight.{value_weight, static_values_weight, annotation_weight, ref_list_weight}
use Rattle.dexspec.specs.internal.Writing.{Puts}
use Rattle.dexpool.specs.Numberings.{AreRising}
use Rattle.dexval.specs.declared.annotation.Annotation.{Annotation}
use Rattle.dexval.specs.declared.set.AnnotationSet.{AnnotationSet}
use Rattle.dexval.specs.declared.value.Value.{Value}
use Rattle.dexval.specs.Code.{value_of, values_of, annotation_of, set_of}
use Rattle.dexval.specs.Directories.{set_weight_in}
use Rattle.dexval.specs.Numbered.{NumberedValue, NumberedValues, NumberedAnnotation, NumberedSet, value_in, values_in}
use Rattle.dexval.specs.Numbered.{annotation_in, set_in, Denotes, Denote, DenotesAnnotation, DenotesSet}
use Rattle.dexval.specs.Spelled.{values_count, IsCounted, AreCounted, IsCountedAnnotation, numbered_array_bytes}
use Rattle.dexval.specs.Spelled.{numbered_annotation_bytes}

-- ---- bytes

-- the bytes of the value that the numbers denote are put, if each array and annotation in it has fewer than 2^32
-- members
abbrev pub PutsValue : {T E : Type 0} → Mentions → NumberedValue → Vec ℕ → Vec ℕ → Result T E → Type 0
PutsValue m x old new r =
    (symbolic : ValueMeant) → IsCounted x → Denotes m x symbolic → Puts (value_bytes m symbolic) old new r

-- those of the static values
abbrev pub PutsStatics : {T E : Type 0} → Mentions → List Value → Vec ℕ → Vec ℕ → Result T E → Type 0
PutsStatics m values old new r =
    (symbolic : ValuesMeant) → length values < 2 ^ 32 → AreCounted (values_of values)
    → Denote m (values_of values) symbolic → Puts (encoded_array_bytes m symbolic) old new r

-- those of the values that the numbers denote, of which there are fewer than 2^32
abbrev pub PutsValues : {T E : Type 0} → Mentions → NumberedValues → Vec ℕ → Vec ℕ → Result T E → Type 0
PutsValues m xs old new r =
    (symbolic : ValuesMeant) → values_count xs < 2 ^ 32 → AreCounted xs → Denote m xs symbolic
    → Puts (encoded_array_bytes m symbolic) old new r

-- those of the annotation
abbrev pub PutsAnnotation : {T E : Type 0} → Mentions → NumberedAnnotation → Vec ℕ → Vec ℕ → Result T E → Type 0
PutsAnnotation m x old new r =
    (symbolic : AnnotationMeant) → IsCountedAnnotation x → DenotesAnnotation m x symbolic
    → Puts (annotation_bytes m symbolic) old new r

-- the annotation_set_item of the set that the numbers denote is put, its annotations in sequence from an offset on
abbrev pub PutsSet : {T E : Type 0} → Mentions → ℕ → NumberedSet → Vec ℕ → Vec ℕ → Result T E → Type 0
PutsSet m first x old new r =
    (symbolic : SetMeant) → DenotesSet m x symbolic
    → Puts (offsets_bytes (offsets_from 1 first (map (annotation_bytes m) symbolic))) old new r

-- ---- sizes

-- the number of bytes of static values
abbrev pub statics_length : List Value → ℕ
statics_length values = length (numbered_array_bytes (values_of values))

-- the number of bytes of an annotation
abbrev pub annotation_length : Annotation → ℕ
annotation_length annotation = length (numbered_annotation_bytes (annotation_of annotation))

-- the size of what an annotation denotes in a numbering, or 2^64 - 1 if it is more
abbrev pub IsAnnotationSize : NumberedAnnotation → ℕ → Type 0
IsAnnotationSize x size =
    (m : Mentions) (symbolic : AnnotationMeant) → AreRising m → DenotesAnnotation m x symbolic
    → size ≡ min (2 ^ 64 - 1) (length (annotation_bytes m symbolic))

-- ---- weights

-- the weight of the value that the numbers denote
abbrev pub value_weight_in : Mentions → NumberedValue → ℕ
value_weight_in m x = value_weight (value_in m x)

-- that of static values
abbrev pub statics_weight_in : Mentions → NumberedValues → ℕ
statics_weight_in m xs = static_values_weight (values_in m xs)

-- that of an annotation
abbrev pub annotation_weight_in : Mentions → NumberedAnnotation → ℕ
annotation_weight_in m x = annotation_weight (annotation_in m x)

-- the weight of a value of the code
abbrev pub weight_of_value : Mentions → Value → ℕ
weight_of_value m value = value_weight_in m (value_of value)

-- that of static values
abbrev pub weight_of_statics : Mentions → List Value → ℕ
weight_of_statics m values = statics_weight_in m (values_of values)

-- that of an annotation
abbrev pub weight_of_annotation : Mentions → Annotation → ℕ
weight_of_annotation m annotation = annotation_weight_in m (annotation_of annotation)

-- that of a list of sets
abbrev pub weight_of_sets : Mentions → List AnnotationSet → ℕ
weight_of_sets m sets = ref_list_weight (map (set_in m) (map set_of sets))

-- ---- capacity

-- the vector has the capacity for `count` more items
abbrev pub HasRoom : Vec ℕ → ℕ → Type 0
HasRoom out count = vec_len out + count ≤ vec_capacity out

-- the vector has the capacity for static values
abbrev pub HasRoomForStatics : Vec ℕ → Mentions → List Value → Type 0
HasRoomForStatics out m values = HasRoom out (weight_of_statics m values)

-- the vector has the capacity for a set and its annotations
abbrev pub HasRoomForSet : Vec ℕ → Mentions → AnnotationSet → Type 0
HasRoomForSet out m set = HasRoom out (set_weight_in m (set_of set))
