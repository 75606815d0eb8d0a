use Rattle.dexstr.proofs.Ascii.{ascii_passed, passed_more}
use Rattle.dexstr.proofs.units.skip_units.Goals as goal

pub loop-after-preserved : goal.loop-after-preserved
loop-after-preserved c = ascii_passed c.args.bytes.now c.loop-after.count c.loop-after.rest.now 4 c.in-Some.after.now c.loop-after.invariant c.in-Some.ensures

pub loop-after-2-preserved : goal.loop-after-2-preserved
loop-after-2-preserved c = ascii_passed c.args.bytes.now c.loop-after-2.count c.loop-after-2.rest.now 1 c.in-Some-after_ascii_unit.after.now c.loop-after-2.invariant c.in-Some-after_ascii_unit.ensures

pub loop-after-3-preserved : goal.loop-after-3-preserved
loop-after-3-preserved c = passed_more c.args.bytes.now c.loop-after-3.count c.loop-after-3.rest.now c.in-Some-first_unit.field-0-0 c.in-Some-first_unit.after.now c.loop-after-3.invariant c.in-Some-first_unit.ensures.found
