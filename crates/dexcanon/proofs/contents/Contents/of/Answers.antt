use Rattle.dexcanon.proofs.WholeFile.{ready, canonical_is}
use Rattle.dexcanon.proofs.contents.Contents.of.Goals as goal

pub returns-clause-ready : goal.returns-clause-ready
returns-clause-ready c = ready c.numbering.ensures (c.requires.writable _ c.classes.ensures).0 (c.requires.laid _ c.classes.ensures)

pub returns-clause-whole : goal.returns-clause-whole
returns-clause-whole c = canonical_is c.args.program.now c.numbering.result.now c.classes.result.now c.numbering.ensures (c.requires.writable _ c.classes.ensures).1
