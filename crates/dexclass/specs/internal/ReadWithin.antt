-- The class rows of a file, read until they weigh more than a number.
use Rattle.std.specs.Prelude.{◌≡◌, ◌⊎◌, ℕ, ◌<◌, List}
use Rattle.dexspec.specs.Accepted.{IsRefused}
use Rattle.dexspec.specs.Weight.{most_weight}
use Rattle.dexids.specs.declared.faults.ReadFault.{ReadFault}
use Rattle.dexids.specs.declared.faults.ReadFault.TheVariants.{Refused, Memory}

-- a fault of the file, or 23 where the number is less than what a program may weigh
abbrev pub IsFaultWithin : ℕ → List ℕ → ReadFault → Type 0
IsFaultWithin most b Memory = Unit {0}
IsFaultWithin most b (Refused r) = IsRefused b r.number r.place ⊎ ((r.number ≡ 23) × (most < most_weight))

-- so it is if the fault is that something is too heavy: 23
abbrev pub IfTooHeavy : Type 0 → ReadFault → Type 0
IfTooHeavy P Memory = Unit {0}
IfTooHeavy P (Refused r) = r.number ≡ 23 → P
