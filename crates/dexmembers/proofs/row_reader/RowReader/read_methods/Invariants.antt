use Rattle.dexmembers.proofs.Common.{◌≡◌, ◌+◌, take, ArePools}
use Rattle.dexmembers.specs.{codes_weight}
use Rattle.dexmembers.proofs.CodesOfMethods.{HaveReadCodes}
use Rattle.dexmembers.proofs.MethodsRead.{HaveReadMethods, stored_codes}
use Rattle.dexmembers.specs.internal.MethodCodes.{ArePlacesOfCodes, AreReadCodes, kept_codes}
use Rattle.dexmembers.proofs.row_reader.RowReader.read_methods.Given as goal

abbrev pub invariant-loop-method : goal.invariant-loop-method
invariant-loop-method l = record {
  read : ArePools l.self.frame.now l.self.pools.now → HaveReadCodes l.self.frame.now l.self.pools.now (take l.method-index l.listed) l.self.most l.left (stored_codes (kept_codes l.kept) l.methods.items);
  weight : l.left + codes_weight (stored_codes (kept_codes l.kept) l.methods.items) ≡ l.self.most;
  places : ArePlacesOfCodes l.kept;
  known : ArePools l.self.frame.now l.self.pools.now → AreReadCodes l.self.frame.now l.self.pools.now l.kept;
  methods : HaveReadMethods l.sets l.lists (take l.method-index l.listed) (kept_codes l.kept) l.methods.items;
}
