use Rattle.dexclass.proofs.Common.{map, take}
use Rattle.dexpool.proofs.MarksMade.{mark_there, mapped_more}
use Rattle.dexclass.specs.{use_of}
use Rattle.dexclass.proofs.marking.mark_all.Goals as goal

pub mark-requires : goal.mark-requires
mark-requires c = mark_there (use_of c.args.kind) c.args.numbers.now (map (use_of c.args.kind) (take c.loop-number.number-index c.args.numbers.now)) c.loop-number.number-index 0 c.args.marks.now c.loop-number.marks c.loop-number-test.true c.requires c.loop-number.invariant

pub loop-number-preserved : goal.loop-number-preserved
loop-number-preserved c = mapped_more (use_of c.args.kind) c.args.numbers.now c.loop-number.number-index 0 c.args.marks.now c.loop-number.marks c.mark.new.self c.loop-number-test.true c.loop-number.invariant c.mark.ensures
