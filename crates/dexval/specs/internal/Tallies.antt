-- What a reader adds up of the values that it reads.
use Rattle.std.specs.Prelude.{◌≡◌, ℕ, ◌+◌, ◌-◌, ◌^◌, min, false, List, []}
use Rattle.std.specs.Global.{Vec}
use Rattle.dexpool.specs.Uses.{Use}
use Rattle.dexval.specs.declared.value.Element.{Element}
use Rattle.dexval.specs.declared.value.EncodedAnnotation.{EncodedAnnotation}
use Rattle.dexval.specs.declared.value.Value.{Value}
use Rattle.dexval.specs.declared.value_reading.Tally.{Tally}
use Rattle.dexval.specs.Code.{value_of, values_of, element_of, elements_of, encoded_of}
use Rattle.dexval.specs.Spelled.{numbered_weight, numbered_values_weight, numbered_elements_weight}
use Rattle.dexval.specs.Uses.{value_uses, values_uses, element_uses, elements_uses}

-- the weight, or 2^64 - 1 where that is more, and whether a symbol is named: `true` says nothing
pub record IsTally (weight : ℕ) (uses : List Use) (tally : Tally) : Type 0 where
  pub weighs : tally.weight ≡ min (2 ^ 64 - 1) weight
  pub nameless : tally.names_symbols ≡ false → uses ≡ []

-- a value with its tally
abbrev pub TalliesValue : Value × Tally → Type 0
TalliesValue read = IsTally (numbered_weight (value_of read.0)) (value_uses (value_of read.0)) read.1

-- values
abbrev pub TalliesValues : Vec Value × Tally → Type 0
TalliesValues read =
    IsTally (numbered_values_weight (values_of read.0.items)) (values_uses (values_of read.0.items)) read.1

-- an element
abbrev pub TalliesElement : Element × Tally → Type 0
TalliesElement read =
    IsTally (5 + numbered_weight (element_of read.0).1) (element_uses (element_of read.0)) read.1

-- elements
abbrev pub TalliesElements : Vec Element × Tally → Type 0
TalliesElements read =
    IsTally (numbered_elements_weight (elements_of read.0.items)) (elements_uses (elements_of read.0.items)) read.1

-- an annotation
abbrev pub TalliesAnnotation : EncodedAnnotation × Tally → Type 0
TalliesAnnotation read = IsTally (numbered_weight (encoded_of read.0)) (value_uses (encoded_of read.0)) read.1
