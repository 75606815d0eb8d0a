-- What is equal once remapped: each side by a map of its own.
use Rattle.std.specs.Prelude.{◌≡◌, ℕ, List, map, Option}
use Rattle.dexpool.specs.declared.symbols.SymbolKind.TheVariants as kinds
use Rattle.dexpool.specs.Numberings.{Maps}
use Rattle.dexdebug.specs.declared.debug_operation.Operation.{Operation}
use Rattle.dexdebug.specs.Debug.{image_or_none, name_of, type_of, signature_of}
use Rattle.dexdebug.specs.Operations.{unindexed_of}

-- two items are equal once remapped
abbrev pub EqualRemapped : {X Y : Type 0} → (Maps → X → Y) → Maps → Maps → X → X → Type 0
EqualRemapped f r s x y = f r x ≡ f s y

-- two lists are equal once each item is remapped
abbrev pub SameRemapped : {X Y : Type 0} → (Maps → X → Y) → Maps → Maps → List X → List X → Type 0
SameRemapped f r s xs ys = map (f r) xs ≡ map (f s) ys

-- an operation without the numbers of symbols, and their images
abbrev pub image_key : Maps → Operation → Operation × Option ℕ × Option ℕ × Option ℕ
image_key r op = (
  unindexed_of op,
  image_or_none r kinds.Text (name_of op),
  image_or_none r kinds.Typ (type_of op),
  image_or_none r
      kinds.Text (signature_of op),
)
