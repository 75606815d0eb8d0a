use Rattle.dexmembers.proofs.Common.{length, arith}
use Rattle.dexmembers.proofs.RowChecked.{too_many_values, values_of}
use Rattle.dexmembers.proofs.row_reader.RowReader.weight_of_values.Goals as goal

pub returns-then-shape-len-clause-refused : goal.returns-then-shape-len-clause-refused
returns-then-shape-len-clause-refused c = λ has r at pools.
    let s = c.args.shape in
    too_many_values c.args.self.now.frame.now r c.args.self.now.row.now.static_values_off at c.requires c.args.self.now.pools.now s.count s.size s.weight has (length c.args.self.now.declared.now.static_fields.items) (omega arith)

pub returns-clause-weight : goal.returns-clause-weight
returns-clause-weight c = λ has r at pools.
    let s = c.args.shape in
    values_of c.args.self.now.frame.now r c.args.self.now.row.now.static_values_off at c.requires c.args.self.now.pools.now s.count s.size s.weight has (length c.args.self.now.declared.now.static_fields.items) (omega arith)
