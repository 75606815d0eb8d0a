use Rattle.dexclass.specs.internal.Stripped.{stripped_class}
use Rattle.dexclass.proofs.Renumbered.{RemappedAt}
use Rattle.dexclass.proofs.stripping.strip_all.Given as goal

abbrev pub invariant-loop-i : goal.invariant-loop-i
invariant-loop-i l = RemappedAt stripped_class l.classes.items l.fn.classes.items l.i
