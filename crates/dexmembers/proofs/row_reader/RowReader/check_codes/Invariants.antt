use Rattle.dexmembers.proofs.Common.{take, ArePools}
use Rattle.dexmembers.specs.{AreCheckedCodes, HaveCodesOf}
use Rattle.dexmembers.proofs.row_reader.RowReader.check_codes.Given as goal

abbrev pub invariant-loop-method : goal.invariant-loop-method
invariant-loop-method l = record {
  checked : ArePools l.self.frame.now l.self.pools.now → AreCheckedCodes l.self.frame.now l.checked;
  weighed : ArePools l.self.frame.now l.self.pools.now → HaveCodesOf l.self.frame.now (take l.method-index l.methods) l.weight;
}
