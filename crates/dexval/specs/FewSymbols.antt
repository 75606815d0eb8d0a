-- Symbols that are kept, each once.
use Rattle.std.specs.Prelude.{◌≡◌, ℕ, List, [], ◌∷◌}
use Rattle.std.specs.List.{flat_map}
use Rattle.dexpool.specs.declared.symbols.SymbolKind.{SymbolKind}
use Rattle.dexpool.specs.Uses.{Use, occurs}
use Rattle.dexval.specs.declared.few_symbols.Occurring.{Occurring}

-- what the symbols are, as symbols that occur
abbrev pub uses_of : List Occurring → List Use
uses_of xs = flat_map (λ (x : Occurring). record { kind = x.kind; number = x.number } ∷ []) xs

-- the same symbols occur in both
abbrev pub HaveSameUses : List Use → List Use → Type 0
HaveSameUses us vs = (kind : SymbolKind) (i : ℕ) → occurs us kind i ≡ occurs vs kind i
