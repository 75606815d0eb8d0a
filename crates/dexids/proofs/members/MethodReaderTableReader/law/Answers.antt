use Rattle.dexids.proofs.Common.{file_numbers}
use Rattle.dexids.proofs.ReadTables.{method_decided}
use Rattle.dexids.proofs.members.MethodReaderTableReader.law.Goals as goal

pub returns-clause-next : goal.returns-clause-next
returns-clause-next c = let names = c.args.self.now.names.now in method_decided names.strings.now names.types.now (file_numbers names.frame.now) c.args.self.now.protos.now names.frame.now
