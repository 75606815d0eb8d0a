-- What holds after a fault by which something weighs more than it may.
use Rattle.std.specs.Prelude.{◌≡◌}
use Rattle.dexpool.specs.declared.faults.ItemFault.{ItemFault}
use Rattle.dexpool.specs.declared.faults.ItemFault.TheVariants.{Refused, Memory}

-- so it is if the fault is that something is too heavy: 23
abbrev pub IfTooHeavy : Type 0 → ItemFault → Type 0
IfTooHeavy P Memory = Unit {0}
IfTooHeavy P (Refused number) = number ≡ 23 → P
