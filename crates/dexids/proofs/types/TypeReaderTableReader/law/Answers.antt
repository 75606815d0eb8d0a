use Rattle.dexids.proofs.Steps.{type_decided}
use Rattle.dexids.proofs.types.TypeReaderTableReader.law.Goals as goal

pub returns-clause-next : goal.returns-clause-next
returns-clause-next c = type_decided c.args.self.now.strings.now c.args.self.now.frame.now
