use Rattle.dexclass.proofs.Common.{◌≡◌, take}
use Rattle.dexclass.proofs.programs.Program.copy.Given as goal

abbrev pub invariant-loop-class : goal.invariant-loop-class
invariant-loop-class l = l.classes.items ≡ take l.class-index l.self-inside.classes.items
