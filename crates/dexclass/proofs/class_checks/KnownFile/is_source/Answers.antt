use Rattle.dexclass.proofs.Indices.{source_is}
use Rattle.dexclass.proofs.class_checks.KnownFile.is_source.Goals as goal

pub returns-else-index-eq-NO_INDEX : goal.returns-else-index-eq-NO_INDEX
returns-else-index-eq-NO_INDEX c = source_is c.args.self.now.frame.now c.args.self.now.pools.now c.args.index c.len.result c.requires.pools c.len.ensures c.if-index-eq-NO_INDEX.false
