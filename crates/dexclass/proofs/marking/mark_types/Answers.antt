use Rattle.dexclass.proofs.Common.{map, take, arith}
use Rattle.dexpool.proofs.MarksMade.{mark_there, mapped_more}
use Rattle.dexclass.specs.{type_use}
use Rattle.dexclass.proofs.marking.mark_types.Goals as goal

pub mark-requires : goal.mark-requires
mark-requires c = rw c.at.ensures (mark_there type_use c.args.types.now (map type_use (take c.loop-k.k c.args.types.now)) c.loop-k.k 0 c.args.marks.now c.loop-k.marks (omega (arith, c.loop-k-test.true, c.len-k-end.ensures)) c.requires c.loop-k.invariant)

pub loop-k-preserved : goal.loop-k-preserved
loop-k-preserved c = mapped_more type_use c.args.types.now c.loop-k.k 0 c.args.marks.now c.loop-k.marks c.mark.new.self (omega (arith, c.loop-k-test.true, c.len-k-end.ensures)) c.loop-k.invariant (rw c.at.ensures at c.mark.ensures)
