use Rattle.dexpool.proofs.Common.{◌∙◌, ◌+◌, sym, ap, arith, drop, kept, mark_all}
use Rattle.dexpool.proofs.KeptRows.{kept_first, kept_next}
use Rattle.dexpool.proofs.closing.mark_by_types.Goals as goal
use Rattle.dexpool.proofs.closing.mark_by_types.Goals.{then-marks-i, else-marks-i}

pub loop-i-preserved : goal.loop-i-preserved
loop-i-preserved c =
    let marks = c.args.marks.now in
    let i = c.loop-i.i in
    let rest = kept (drop (i + 1) marks) (drop (i + 1) c.args.types.now) in
    elim c.if-marks-i.branch [
      | then-marks-i w ↦ ap (λ l. mark_all l rest) w.strings-is ∙ sym (ap (mark_all c.loop-i.strings) (kept_first marks c.args.types.now i 0 (omega arith) c.requires.marks w.if-marks-i.true)) ∙ c.loop-i.invariant
      | else-marks-i w ↦ ap (λ l. mark_all l rest) w.strings-is ∙ sym (ap (mark_all c.loop-i.strings) (kept_next marks c.args.types.now i 0 (omega arith) c.requires.marks w.if-marks-i.false)) ∙ c.loop-i.invariant
    ]
