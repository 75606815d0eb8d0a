use Rattle.dexruns.proofs.Common.{◌≡◌, ◌++◌, take, definitions}
use Rattle.dexspec.specs.Depth.{in_class_order}
use Rattle.dexspec.specs.Texts.{Text}
use Rattle.dexruns.specs.Comparisons.{copies_in}
use Rattle.dexruns.specs.internal.CopyTables.{copies_at}
use Rattle.dexruns.proofs.comparing.add_classes.Given as goal

-- the classes so far are added
abbrev pub invariant-loop-i : goal.invariant-loop-i
invariant-loop-i l = record { added : (name : Text) → copies_at l.table.classes name ≡ copies_at l.fn.table.classes name ++ copies_in l.file (take l.i (in_class_order (definitions l.fn.program))) name }
