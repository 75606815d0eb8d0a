use Rattle.dexmembers.proofs.Common.{take, flat_map, IsGreatest}
use Rattle.dexmembers.specs.{method_short_strings}
use Rattle.dexmembers.proofs.short_strings.greatest_of_methods.Given as goal

abbrev pub invariant-loop-i : goal.invariant-loop-i
invariant-loop-i l = IsGreatest (flat_map method_short_strings (take l.i l.methods)) l.greatest
