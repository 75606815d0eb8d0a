use Rattle.dexids.proofs.Common.{◌∙◌, arith, row_at, TypeIds}
use Rattle.dexids.proofs.Bytes.{uint_at_row}
use Rattle.dexids.proofs.types.type_index.Goals as goal

pub returns : goal.returns
returns c = c.u32_at.ensures ∙ uint_at_row c.args.frame.now c.row.result.now (row_at c.args.frame.now TypeIds c.args.i) 4 0 _ c.row.ensures.bytes (omega arith) (omega arith)
