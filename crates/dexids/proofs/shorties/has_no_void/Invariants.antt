use Rattle.dexids.proofs.Common.{◌≡◌, drop, false, ◌↔◌, All, IsNotVoid}
use Rattle.dexids.proofs.shorties.has_no_void.Given as goal

abbrev pub invariant-loop-unit : goal.invariant-loop-unit
invariant-loop-unit l = All IsNotVoid l.units ↔ ((l.has_void ≡ false) × All IsNotVoid (drop l.unit-index l.units))
