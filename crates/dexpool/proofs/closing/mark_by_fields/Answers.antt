use Rattle.dexpool.proofs.Common.{arith, FieldRow, field_types}
use Rattle.dexpool.proofs.KeptRows.{number_marked, number_left, numbers_marked, numbers_left}
use Rattle.dexpool.proofs.closing.mark_by_fields.Goals as goal
use Rattle.dexpool.proofs.closing.mark_by_fields.Goals.{then-marks-i, else-marks-i}

pub loop-i-preserved : goal.loop-i-preserved
loop-i-preserved c =
    let rows = c.args.fields.now in
    let marks = c.args.marks.now in
    let i = c.loop-i.i in
    elim c.if-marks-i.branch [
      | then-marks-i w ↦ record {
        strings = number_marked marks rows i (record { class = 0; name = 0; typ = 0 }) (omega arith) c.requires.marks _ _ _ (λ (f : FieldRow). f.name) w.if-marks-i.true w.strings-is c.loop-i.invariant.strings;
        types = numbers_marked marks rows i (record { class = 0; name = 0; typ = 0 }) (omega arith) c.requires.marks _ _ _ field_types w.if-marks-i.true w.types-is c.loop-i.invariant.types;
      }
      | else-marks-i w ↦ record {
        strings = number_left marks rows i (record { class = 0; name = 0; typ = 0 }) (omega arith) c.requires.marks _ _ _ (λ (f : FieldRow). f.name) w.if-marks-i.false w.strings-is c.loop-i.invariant.strings;
        types = numbers_left marks rows i (record { class = 0; name = 0; typ = 0 }) (omega arith) c.requires.marks _ _ _ field_types w.if-marks-i.false w.types-is c.loop-i.invariant.types;
      }
    ]
