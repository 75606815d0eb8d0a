-- Arrays, elements and annotations, as read.
use Rattle.std.specs.Prelude.{◌≡◌, ℕ, ◌+◌, ◌<◌, ◌≤◌, IsTrue, List, length}
use Rattle.dexspec.specs.Lists.{rises}
use Rattle.dexspec.specs.Numbers.{Uleb128At}
use Rattle.dexspec.specs.Texts.{Text, text_cmp}
use Rattle.dexspec.specs.Rows.{StringRow}
use Rattle.dexspec.specs.Values.{Value, Values, Elements, ValueAt, ValuesAt, ElementsAt, EncodedArrayAt}
use Rattle.dexspec.specs.Values.{EncodedAnnotationAt, value_depth, values_depth, elements_depth, count_values, names_of}
use Rattle.dexspec.specs.Mentions.{Mentions}
use Rattle.dexpool.specs.Pools.{ArePools}
use Rattle.dexpool.specs.Numberings.{AreRising}
use Rattle.dexval.specs.Numbered.{NumberedValue, NumberedValues, NumberedElements, AreKnown, HaveKnown, values_in}
use Rattle.dexval.specs.Numbered.{elements_in, type_at}
use Rattle.dexval.specs.internal.Scalars.{IsReadAt}

-- the pools are those of the file, and rise
pub record HasPools (b : List ℕ) (m : Mentions) : Type 0 where
  pub pools : ArePools b m
  pub rising : AreRising m

-- no encoded_array whose values nest at most `depth` deep is at the offset
abbrev pub NoArrayAt : List ℕ → ℕ → ℕ → Type 0
NoArrayAt b o depth = (vs : Values) (n : ℕ) → EncodedArrayAt b o vs n → values_depth vs ≤ depth → ⊥

-- an encoded_array of the values that the numbers denote is at the offset; the values nest at most `depth` deep
pub record AreReadAt (b : List ℕ) (o : ℕ) (m : Mentions) (depth : ℕ) (xs : NumberedValues) (n : ℕ) : Type 0 where
  pub known : AreKnown m xs
  pub encodes : EncodedArrayAt b o (values_in m xs) n
  pub shallow : values_depth (values_in m xs) ≤ depth

-- no `count` values that nest at most `depth` deep are at the offset
abbrev pub NoValuesAt : List ℕ → ℕ → ℕ → ℕ → Type 0
NoValuesAt b o depth count =
    (vs : Values) (n : ℕ) → ValuesAt b o vs n → count_values vs ≡ count → values_depth vs ≤ depth → ⊥

-- `count` values, those that the numbers denote, are at the offset; they nest at most `depth` deep
pub record AreValuesReadAt (b : List ℕ) (o : ℕ) (m : Mentions) (depth count : ℕ) (xs : NumberedValues) (n : ℕ) :
    Type 0 where
  pub known : AreKnown m xs
  pub encodes : ValuesAt b o (values_in m xs) n
  pub number : count_values (values_in m xs) ≡ count
  pub shallow : values_depth (values_in m xs) ≤ depth

-- no element whose name has at least the number `least`, and whose value nests at most `depth` deep, is at the offset
abbrev pub NoElementAt : List ℕ → ℕ → ℕ → ℕ → Type 0
NoElementAt b o depth least =
    (index : ℕ) (name : Text) (v : Value) (i j : ℕ) → Uleb128At b o index i → StringRow b index name → least ≤ index
    → ValueAt b (o + i) v j → value_depth v ≤ depth → ⊥

-- an element of the name and the value that the numbers denote is at the offset
pub record IsElementReadAt (b : List ℕ) (o : ℕ) (m : Mentions) (depth least : ℕ) (e : ℕ × NumberedValue) (n : ℕ) :
    Type 0 where
  pub head : ℕ
  pub size : ℕ
  pub index : Uleb128At b o e.0 head
  pub name_known : e.0 < length m.texts
  pub above : least ≤ e.0
  pub value : IsReadAt b (o + head) m depth e.1 size
  pub sum : n ≡ head + size

-- no `count` elements whose names rise strictly, and whose values nest at most `depth` deep, are at the offset
abbrev pub NoElementsAt : List ℕ → ℕ → ℕ → ℕ → Type 0
NoElementsAt b o depth count =
    (es : Elements) (n : ℕ) → ElementsAt b o es n → length (names_of es) ≡ count → IsTrue (rises text_cmp (names_of es))
    → elements_depth es ≤ depth → ⊥

-- `count` elements, those that the numbers denote, are at the offset; their names rise, and their values nest at most
-- `depth` deep
pub record AreElementsReadAt (b : List ℕ) (o : ℕ) (m : Mentions) (depth count : ℕ) (es : NumberedElements) (n : ℕ) :
    Type 0 where
  pub known : HaveKnown m es
  pub encodes : ElementsAt b o (elements_in m es) n
  pub number : length (names_of (elements_in m es)) ≡ count
  pub rise : IsTrue (rises text_cmp (names_of (elements_in m es)))
  pub shallow : elements_depth (elements_in m es) ≤ depth

-- no encoded_annotation whose values nest at most `depth` deep is at the offset
abbrev pub NoAnnotationAt : List ℕ → ℕ → ℕ → Type 0
NoAnnotationAt b o depth =
    (t : Text) (es : Elements) (n : ℕ) → EncodedAnnotationAt t b o es n → elements_depth es ≤ depth → ⊥

-- an encoded_annotation of the type and the elements that the numbers denote is at the offset; its values nest at most
-- `depth` deep
pub record IsAnnotationReadAt (b : List ℕ) (o : ℕ) (m : Mentions) (depth : ℕ) (t : ℕ) (es : NumberedElements) (n : ℕ) :
    Type 0 where
  pub type_known : t < length m.types
  pub known : HaveKnown m es
  pub encodes : EncodedAnnotationAt (type_at m t) b o (elements_in m es) n
  pub shallow : elements_depth (elements_in m es) ≤ depth
