-- Numbers that have images of 32 bits.
use Rattle.std.specs.Prelude.{◌≡◌, ℕ, ◌^◌, ◌<◌, Some}
use Rattle.dexpool.specs.declared.symbols.SymbolKind.{SymbolKind}
use Rattle.dexpool.specs.Numberings.{Maps, image_of}
use Rattle.dexpool.specs.Uses.{Use}

-- The number has an image, of 32 bits where it is of 32 bits itself, as each number of the code is.
abbrev pub IsMapped : Maps → SymbolKind → ℕ → Type 0
IsMapped r kind i = (j : ℕ) × (image_of r kind i ≡ Some j) × (i < 2 ^ 32 → j < 2 ^ 32)

-- the symbol's number has such an image
abbrev pub MapsUse : Maps → Use → Type 0
MapsUse r u = IsMapped r u.kind u.number
