use Rattle.dexclass.proofs.Marked.{marked_again}
use Rattle.dexclass.proofs.marking.mark_unless.Goals as goal

pub returns-else-not-are_marked : goal.returns-else-not-are_marked
returns-else-not-are_marked c = marked_again _ c.args.marks.now (c.requires.marked c.if-not-are_marked.false)
