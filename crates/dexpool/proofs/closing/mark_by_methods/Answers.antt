use Rattle.dexpool.proofs.Common.{arith, MethodRow}
use Rattle.dexpool.proofs.KeptRows.{number_marked, number_left}
use Rattle.dexpool.proofs.closing.mark_by_methods.Goals as goal
use Rattle.dexpool.proofs.closing.mark_by_methods.Goals.{then-marks-i, else-marks-i}

pub loop-i-preserved : goal.loop-i-preserved
loop-i-preserved c =
    let rows = c.args.methods.now in
    let marks = c.args.marks.now in
    let i = c.loop-i.i in
    elim c.if-marks-i.branch [
      | then-marks-i w ↦ record {
        strings = number_marked marks rows i (record { class = 0; name = 0; proto = 0 }) (omega arith) c.requires.marks _ _ _ (λ (m : MethodRow). m.name) w.if-marks-i.true w.strings-is c.loop-i.invariant.strings;
        types = number_marked marks rows i (record { class = 0; name = 0; proto = 0 }) (omega arith) c.requires.marks _ _ _ (λ (m : MethodRow). m.class) w.if-marks-i.true w.types-is c.loop-i.invariant.types;
        protos = number_marked marks rows i (record { class = 0; name = 0; proto = 0 }) (omega arith) c.requires.marks _ _ _ (λ (m : MethodRow). m.proto) w.if-marks-i.true w.protos-is c.loop-i.invariant.protos;
      }
      | else-marks-i w ↦ record {
        strings = number_left marks rows i (record { class = 0; name = 0; proto = 0 }) (omega arith) c.requires.marks _ _ _ (λ (m : MethodRow). m.name) w.if-marks-i.false w.strings-is c.loop-i.invariant.strings;
        types = number_left marks rows i (record { class = 0; name = 0; proto = 0 }) (omega arith) c.requires.marks _ _ _ (λ (m : MethodRow). m.class) w.if-marks-i.false w.types-is c.loop-i.invariant.types;
        protos = number_left marks rows i (record { class = 0; name = 0; proto = 0 }) (omega arith) c.requires.marks _ _ _ (λ (m : MethodRow). m.proto) w.if-marks-i.false w.protos-is c.loop-i.invariant.protos;
      }
    ]
