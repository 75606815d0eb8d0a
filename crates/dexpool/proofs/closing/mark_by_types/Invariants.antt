use Rattle.dexpool.proofs.Common.{◌≡◌, drop, kept, mark_all}
use Rattle.dexpool.proofs.closing.mark_by_types.Given as goal

abbrev pub invariant-loop-i : goal.invariant-loop-i
invariant-loop-i l = mark_all l.strings (kept (drop l.i l.marks) (drop l.i l.types)) ≡ mark_all l.fn.strings (kept l.marks l.types)
