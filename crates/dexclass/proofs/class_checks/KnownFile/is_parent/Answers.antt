use Rattle.dexclass.proofs.Indices.{parent_none, parent_whole}
use Rattle.dexclass.proofs.class_checks.KnownFile.is_parent.Goals as goal

pub returns-else-index-eq-NO_INDEX : goal.returns-else-index-eq-NO_INDEX
returns-else-index-eq-NO_INDEX c = λ r marks. parent_whole c.args.self.now.frame.now r c.args.index c.is_class_before.result c.if-index-eq-NO_INDEX.false (c.is_class_before.ensures r marks)

pub returns-then-index-eq-NO_INDEX : goal.returns-then-index-eq-NO_INDEX
returns-then-index-eq-NO_INDEX c = λ r marks. parent_none c.args.self.now.frame.now r c.args.index c.if-index-eq-NO_INDEX.true
