-- Results of a check, which keeps nothing: an item is in the file, and its size and weight.
use Rattle.std.specs.Prelude.{◌≡◌, ℕ, ◌+◌, List, length}
use Rattle.dexspec.specs.Values.{EncodedArrayItemAt, count_values}
use Rattle.dexspec.specs.Mentions.{Mentions}
use Rattle.dexspec.specs.Weight.{value_weight, static_values_weight, set_weight}
use Rattle.dexval.specs.Items.{IsItemAt}
use Rattle.dexval.specs.Nesting.{AreReadAt, IsElementReadAt, AreElementsReadAt, IsAnnotationReadAt}
use Rattle.dexval.specs.Numbered.{NumberedValue, NumberedValues, NumberedElements, NumberedAnnotation, NumberedSet}
use Rattle.dexval.specs.Numbered.{AreKnown, value_in, values_in, set_in}
use Rattle.dexval.specs.Reading.{IsValueAt, IsSetAt}
use Rattle.dexval.specs.internal.Scalars.{IsReadAt}
use Rattle.dexval.specs.Spelled.{values_count, numbered_weight, numbered_values_weight, numbered_elements_weight}
use Rattle.dexval.specs.Spelled.{numbered_annotation_weight}

-- ---- within a value

-- a value of that many bytes and that weight is at the offset, and nests at most `depth` deep
pub record HasValue (b : List ℕ) (o : ℕ) (m : Mentions) (depth n weight : ℕ) : Type 0 where
  pub value : NumberedValue
  pub read : IsReadAt b o m depth value n
  pub weighs : numbered_weight value ≡ weight

-- an encoded_array of that many values, that many bytes and that weight
pub record HasArray (b : List ℕ) (o : ℕ) (m : Mentions) (depth count n weight : ℕ) : Type 0 where
  pub values : NumberedValues
  pub read : AreReadAt b o m depth values n
  pub counted : values_count values ≡ count
  pub weighs : numbered_values_weight values ≡ weight

-- an element of that name, that many bytes and that weight
pub record HasElement (b : List ℕ) (o : ℕ) (m : Mentions) (depth least name n weight : ℕ) : Type 0 where
  pub value : NumberedValue
  pub read : IsElementReadAt b o m depth least (name, value) n
  pub weighs : 5 + numbered_weight value ≡ weight

-- `count` elements of that many bytes and that weight
pub record HasElements (b : List ℕ) (o : ℕ) (m : Mentions) (depth count n weight : ℕ) : Type 0 where
  pub elements : NumberedElements
  pub read : AreElementsReadAt b o m depth count elements n
  pub weighs : numbered_elements_weight elements ≡ weight

-- an encoded_annotation of that type, that many bytes and that weight
pub record HasAnnotation (b : List ℕ) (o : ℕ) (m : Mentions) (depth typ n weight : ℕ) : Type 0 where
  pub elements : NumberedElements
  pub read : IsAnnotationReadAt b o m depth typ elements n
  pub weighs : 12 + numbered_elements_weight elements ≡ weight

-- ---- at an offset of a file

-- an encoded_value of that many bytes and that weight is at the offset
pub record HasValueOf (b : List ℕ) (off : ℕ) (m : Mentions) (n weight : ℕ) : Type 0 where
  pub value : NumberedValue
  pub at : IsValueAt b off m value n
  pub weighs : value_weight (value_in m value) ≡ weight

-- an encoded_array_item of that many values, that many bytes and that weight
pub record HasStaticsOf (b : List ℕ) (off : ℕ) (m : Mentions) (count n weight : ℕ) : Type 0 where
  pub values : NumberedValues
  pub known : AreKnown m values
  pub at : EncodedArrayItemAt b off (values_in m values) n
  pub counted : count_values (values_in m values) ≡ count
  pub weighs : static_values_weight (values_in m values) ≡ weight

-- an annotation_item of that type and that weight
pub record HasItem (b : List ℕ) (off : ℕ) (m : Mentions) (typ weight : ℕ) : Type 0 where
  pub item : NumberedAnnotation
  pub is_item : IsItemAt b off m item
  pub typed : item.type ≡ typ
  pub weighs : numbered_annotation_weight item ≡ weight

-- an annotation_set_item of that many annotations and that weight
pub record HasSetOf (b : List ℕ) (off : ℕ) (m : Mentions) (count weight : ℕ) : Type 0 where
  pub set : NumberedSet
  pub at : IsSetAt b off m set
  pub counted : length set ≡ count
  pub weighs : set_weight (set_in m set) ≡ weight
