use Rattle.dexmembers.proofs.Common.{Maps, subst}
use Rattle.std.specs.Prelude.{OnOk}
use Rattle.dexval.specs.Tables.{AreRemappedSets}
use Rattle.dexmembers.proofs.remapped_members.RemappedMembers.renumber_table.Goals as goal

pub returns-clause-sets : goal.returns-clause-sets
returns-clause-sets c = subst (λ (r : Maps). OnOk c.renumber.result (AreRemappedSets r c.args.table.now.sets c.renumber.new.self.sets)) c.self.view_is c.renumber.ensures.sets
