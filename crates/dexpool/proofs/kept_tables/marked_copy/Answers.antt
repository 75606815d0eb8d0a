use Rattle.dexpool.proofs.Common.{◌≡◌, [], ◌∷◌, ◌++◌, get_or, refl, arith}
use Rattle.dexpool.proofs.CutRows.{any_of, keeps, leaves}
use Rattle.dexpool.proofs.kept_tables.marked_copy.Goals.{then-marks-i+in_ok-push, else-marks-i}
use Rattle.dexpool.proofs.kept_tables.marked_copy.Goals as goal

pub loop-i-preserved : goal.loop-i-preserved
loop-i-preserved g c =
    let marks = c.args.marks.now in
    let i = c.loop-i.i in
    elim c.if-marks-i.branch [
      | then-marks-i+in_ok-push w ↦
          let grown : w.push.new.self.items ≡ c.loop-i.copy.items ++ get_or c.args.rows.now i w.index-rows-i.result ∷ [] = rw (w.in_ok-push.ensures.items, w.copied.ensures, ← w.index-rows-i.is) refl in
          rw w.copy-is (keeps marks c.args.rows.now i w.index-rows-i.result (omega arith) c.requires c.loop-i.copy.items w.push.new.self.items w.if-marks-i.true grown c.loop-i.invariant)
      | else-marks-i w ↦ rw w.copy-is (leaves marks c.args.rows.now i (any_of c.args.rows.now i (omega arith)) (omega arith) c.requires c.loop-i.copy.items w.if-marks-i.false c.loop-i.invariant)
    ]
