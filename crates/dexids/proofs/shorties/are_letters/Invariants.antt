use Rattle.dexids.proofs.Common.{◌↔◌, drop, SpellNumbers}
use Rattle.dexids.proofs.shorties.are_letters.Given as goal

abbrev pub invariant-loop-i : goal.invariant-loop-i
invariant-loop-i l = SpellNumbers l.letters l.units l.numbers ↔ SpellNumbers l.letters (drop l.i l.units) (drop l.i l.numbers)
