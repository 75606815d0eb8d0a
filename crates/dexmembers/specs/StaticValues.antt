-- The values that static fields begin with, in whoever's memory they are.
use Rattle.std.specs.Prelude.{◌≡◌}
use Rattle.dexpool.specs.Numberings.{Maps}
use Rattle.dexval.specs.Numbered.{NumberedValues}
use Rattle.dexval.specs.Renumbering.{renumbered_values}
use Rattle.dexmembers.specs.declared.static_values.Holder.{Holder}
use Rattle.dexmembers.specs.declared.static_values.Holder.TheVariants.{Own, Shared, Remapped}
use Rattle.dexmembers.specs.declared.static_values.StaticValues.{StaticValues}

-- the values that a holder has
abbrev pub held_values : Holder → NumberedValues
held_values (Own values) = values
held_values (Shared values) = values.value
held_values (Remapped values image) = values.value

-- the values
abbrev pub values_in : StaticValues → NumberedValues
values_in x = held_values x.holder

-- the holder can be remapped: it has the memory alone, or the values remapped beside the values
abbrev pub IsReadyHolder : Maps → Holder → Type 0
IsReadyHolder r (Own values) = Unit {0}
IsReadyHolder r (Shared values) = ⊥
IsReadyHolder r (Remapped values image) = image.value ≡ renumbered_values r values.value

-- the values can be remapped
abbrev pub AreReady : Maps → StaticValues → Type 0
AreReady r x = IsReadyHolder r x.holder
