use Rattle.dexids.proofs.ReadTables.{field_decided}
use Rattle.dexids.proofs.members.NamesTableReader.law.Goals as goal

pub returns-clause-next : goal.returns-clause-next
returns-clause-next c = field_decided c.args.self.now.strings.now c.args.self.now.types.now c.args.self.now.frame.now
