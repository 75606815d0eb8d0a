use Rattle.dexmembers.proofs.Common.{take, All}
use Rattle.dexmembers.specs.{MethodFits}
use Rattle.dexmembers.proofs.short_strings.methods_fit_now.Given as goal

abbrev pub invariant-loop-i : goal.invariant-loop-i
invariant-loop-i l = All MethodFits (take l.i l.methods)
