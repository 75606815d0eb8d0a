-- The symbols that occur in values, annotations and sets.
use Rattle.std.specs.Prelude.{ℕ, List, [], ◌∷◌, ◌++◌}
use Rattle.std.specs.List.{flat_map}
use Rattle.dexpool.specs.declared.symbols.SymbolKind.TheVariants as kinds
use Rattle.dexval.specs.Numbered.{NumberedValue, NumberedValues, NumberedElements, NumberedAnnotation, NumberedSet}
use Rattle.dexval.specs.Numbered.{Plain, Named, Array, Annotated, NoValue, ThenNext, NoElement, ThenNamed}
use Rattle.dexval.specs.Numbered.{kind_of_reference}
use Rattle.dexpool.specs.Uses.{Use}

abbrev mutual
  -- the symbols that a value names
  pub value_uses : NumberedValue → List Use
  value_uses (Plain literal) = []
  value_uses (Named reference i) = record { kind = kind_of_reference reference; number = i } ∷ []
  value_uses (Array xs) = values_uses xs
  value_uses (Annotated t es) = record { kind = kinds.Typ; number = t } ∷ elements_uses es

  -- the symbols that values name
  pub values_uses : NumberedValues → List Use
  values_uses NoValue = []
  values_uses (ThenNext x xs) = value_uses x ++ values_uses xs

  -- the names of elements, and the symbols that their values name
  pub elements_uses : NumberedElements → List Use
  elements_uses NoElement = []
  elements_uses (ThenNamed name x es) = record { kind = kinds.Text; number = name } ∷ (value_uses x ++ elements_uses es)

-- one element's name, and the symbols that its value names
abbrev pub element_uses : ℕ × NumberedValue → List Use
element_uses e = record { kind = kinds.Text; number = e.0 } ∷ value_uses e.1

-- an annotation's type, and the symbols that its elements name
abbrev pub annotation_uses : NumberedAnnotation → List Use
annotation_uses a = record { kind = kinds.Typ; number = a.type } ∷ elements_uses a.elements

-- the symbols of the annotations of a set
abbrev pub set_uses : NumberedSet → List Use
set_uses s = flat_map annotation_uses s
