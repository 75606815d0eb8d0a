use Rattle.dexids.proofs.Steps.{string_decided}
use Rattle.dexids.proofs.strings.FrameTableReader.law.Goals as goal

pub returns-clause-next : goal.returns-clause-next
returns-clause-next c = string_decided c.args.self.now
