-- Maps of numbers that keep their order.
use Rattle.std.specs.Prelude.{◌≡◌, ℕ, ◌<◌, ◌≤◌, List, Option, Some}
use Rattle.dexpool.specs.declared.symbols.SymbolKind.{SymbolKind}
use Rattle.dexpool.specs.Numberings.{Maps, image, image_of}

-- of two numbers that have images, the lesser has the lesser image
abbrev pub KeepsOrder : List (Option ℕ) → Type 0
KeepsOrder images = (h i j k : ℕ) → h < i → image images h ≡ Some j → image images i ≡ Some k → j < k

-- so it is for the numbers of each kind
pub record KeepOrder (r : Maps) : Type 0 where
  pub texts_keep : KeepsOrder r.texts
  pub types_keep : KeepsOrder r.types
  pub protos_keep : KeepsOrder r.protos
  pub fields_keep : KeepsOrder r.fields
  pub methods_keep : KeepsOrder r.methods

-- No image is greater than its number, as in a map into a part.
abbrev pub MapsDown : Maps → Type 0
MapsDown r = (k : SymbolKind) (i j : ℕ) → image_of r k i ≡ Some j → j ≤ i
