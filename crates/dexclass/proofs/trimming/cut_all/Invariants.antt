use Rattle.dexclass.proofs.Common.{◌≡◌}
use Rattle.dexclass.specs.{renumbered_class}
use Rattle.dexclass.proofs.Renumbered.{RemappedAt}
use Rattle.dexclass.proofs.trimming.cut_all.Given as goal

abbrev pub invariant-loop-i : goal.invariant-loop-i
invariant-loop-i l = record {
  kept : l.renumbering ≡ l.remap;
  remapped : RemappedAt (renumbered_class l.remap) l.classes.items l.fn.classes.items l.i;
}
