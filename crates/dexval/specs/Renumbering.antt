-- Values, annotations and sets whose numbers are remapped to those of another numbering.
use Rattle.std.specs.Prelude.{◌≡◌, ℕ, ◌^◌, ◌<◌, map, All, Some, unwrap_or}
use Rattle.dexpool.specs.declared.symbols.SymbolKind.{SymbolKind}
use Rattle.dexpool.specs.declared.symbols.SymbolKind.TheVariants as kinds
use Rattle.dexpool.specs.Numberings.{Maps, image_of}
use Rattle.dexpool.specs.Images.{MapsUse}
use Rattle.dexval.specs.Uses.{value_uses, values_uses, element_uses, elements_uses, annotation_uses, set_uses}
use Rattle.dexval.specs.Numbered.{NumberedValue, NumberedValues, NumberedElements, NumberedAnnotation, NumberedSet}
use Rattle.dexval.specs.Numbered.{Plain, Named, Array, Annotated, NoValue, ThenNext, NoElement, ThenNamed}
use Rattle.dexval.specs.Numbered.{kind_of_reference}

-- the number that a number of a kind maps to; a number without an image is unchanged
abbrev pub remapped : Maps → SymbolKind → ℕ → ℕ
remapped r kind i = unwrap_or (image_of r kind i) i

abbrev mutual
  -- the value with each number remapped
  pub renumbered : Maps → NumberedValue → NumberedValue
  renumbered r (Plain literal) = Plain literal
  renumbered r (Named reference i) = Named reference (remapped r (kind_of_reference reference) i)
  renumbered r (Array xs) = Array (renumbered_values r xs)
  renumbered r (Annotated t es) = Annotated (remapped r kinds.Typ t) (renumbered_elements r es)

  -- each value
  pub renumbered_values : Maps → NumberedValues → NumberedValues
  renumbered_values r NoValue = NoValue
  renumbered_values r (ThenNext x xs) = ThenNext (renumbered r x) (renumbered_values r xs)

  -- each name and its value
  pub renumbered_elements : Maps → NumberedElements → NumberedElements
  renumbered_elements r NoElement = NoElement
  renumbered_elements r (ThenNamed name x es) =
      ThenNamed (remapped r kinds.Text name) (renumbered r x) (renumbered_elements r es)

-- one name and its value
abbrev pub renumbered_element : Maps → ℕ × NumberedValue → ℕ × NumberedValue
renumbered_element r e = (remapped r kinds.Text e.0, renumbered r e.1)

-- the annotation
abbrev pub renumbered_annotation : Maps → NumberedAnnotation → NumberedAnnotation
renumbered_annotation r a =
    record {
      visibility = a.visibility;
      type = remapped r kinds.Typ a.type;
      elements = renumbered_elements r a.elements;
    }

-- the set
abbrev pub renumbered_set : Maps → NumberedSet → NumberedSet
renumbered_set r s = map (renumbered_annotation r) s

-- ---- images of numbers

-- numbers of 32 bits map to numbers of 32 bits
abbrev pub MapsNarrow : Maps → Type 0
MapsNarrow r = (kind : SymbolKind) (i j : ℕ) → image_of r kind i ≡ Some j → i < 2 ^ 32 → j < 2 ^ 32

-- each number of the value has an image of 32 bits
abbrev pub HasPlaces : Maps → NumberedValue → Type 0
HasPlaces r x = All (MapsUse r) (value_uses x)

-- each number of these values
abbrev pub HavePlaces : Maps → NumberedValues → Type 0
HavePlaces r xs = All (MapsUse r) (values_uses xs)

-- each number of these elements
abbrev pub ElementsHavePlaces : Maps → NumberedElements → Type 0
ElementsHavePlaces r es = All (MapsUse r) (elements_uses es)

-- each number of one element
abbrev pub ElementHasPlaces : Maps → ℕ × NumberedValue → Type 0
ElementHasPlaces r e = All (MapsUse r) (element_uses e)

-- each number of the annotation
abbrev pub AnnotationHasPlaces : Maps → NumberedAnnotation → Type 0
AnnotationHasPlaces r a = All (MapsUse r) (annotation_uses a)

-- each number of the set
abbrev pub SetHasPlaces : Maps → NumberedSet → Type 0
SetHasPlaces r s = All (MapsUse r) (set_uses s)
