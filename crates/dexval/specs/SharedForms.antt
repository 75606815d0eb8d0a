-- What values that several classes share are put and marked by.
use Rattle.std.specs.Prelude.{◌≡◌, IfSome}
use Rattle.dexval.specs.FewSymbols.{HaveSameUses, uses_of}
use Rattle.dexval.specs.Numbered.{NumberedValues}
use Rattle.dexval.specs.Spelled.{numbered_array_bytes}
use Rattle.dexval.specs.Uses.{values_uses}
use Rattle.dexval.specs.declared.weighed_values.SharedForm.{SharedForm}

-- the bytes encode the values, and the symbols, where they are kept, are those that occur in them
abbrev pub IsFormOf : NumberedValues → SharedForm → Type 0
IsFormOf xs form =
    (form.encoded.items ≡ numbered_array_bytes xs)
    × IfSome form.symbols (λ few. HaveSameUses (uses_of few.symbols.items) (values_uses xs))
