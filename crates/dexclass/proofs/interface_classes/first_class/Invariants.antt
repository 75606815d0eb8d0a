use Rattle.dexclass.proofs.Common.{◌≡◌, ◌≤◌, ◌<◌, ℕ, None, get_or}
use Rattle.dexclass.specs.internal.InterfaceClasses.{types_of}
use Rattle.dexclass.proofs.interface_classes.first_class.Given as goal

abbrev pub invariant-loop-k : goal.invariant-loop-k
invariant-loop-k l = record {
  later : l.passed ≤ l.k;
  none : (j : ℕ) → l.passed ≤ j → j < l.k → get_or l.by_type (get_or (types_of l.remap l.numbers) j 0) None ≡ None;
}
