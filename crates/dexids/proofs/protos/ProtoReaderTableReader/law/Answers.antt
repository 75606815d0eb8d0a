use Rattle.dexids.proofs.Common.{file_numbers}
use Rattle.dexids.proofs.ReadTables.{proto_decided}
use Rattle.dexids.proofs.protos.ProtoReaderTableReader.law.Goals as goal

pub returns-clause-next : goal.returns-clause-next
returns-clause-next c = let names = c.args.self.now.names.now in proto_decided names.strings.now names.types.now (file_numbers names.frame.now) names.frame.now
