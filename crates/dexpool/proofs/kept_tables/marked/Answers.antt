use Rattle.dexpool.proofs.Common.{◌<◌, length, arith}
use Rattle.dexpool.proofs.CutRows.{cut_more, cut_past}
use Rattle.dexpool.proofs.kept_tables.marked.Goals.{then-marks-i, else-marks-i}
use Rattle.dexpool.proofs.kept_tables.marked.Goals as goal

pub loop-i-preserved : goal.loop-i-preserved
loop-i-preserved g c =
    let marks = c.args.marks.now in
    let lt : c.loop-i.i < length c.args.rows.items = omega (arith, c.loop-i-test.true, c.len-i-end.ensures, c.args.rows.ok.0) in
    elim c.if-marks-i.branch [
      | then-marks-i w ↦ rw (w.rows-is, w.count-is, w.swap.ensures.items) (cut_more c.args.rows.items marks c.loop-i.i c.loop-i.count c.loop-i.rows.items c.loop-i.invariant lt c.requires w.if-marks-i.true)
      | else-marks-i w ↦ rw (w.rows-is, w.count-is) (cut_past c.args.rows.items marks c.loop-i.i c.loop-i.count c.loop-i.rows.items c.loop-i.invariant lt c.requires w.if-marks-i.false)
    ]
