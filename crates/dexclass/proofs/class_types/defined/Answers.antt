use Rattle.dexclass.proofs.Common.{◌∙◌, sym, arith, row_at, ClassDefs, uint_at_row}
use Rattle.dexclass.proofs.class_types.defined.Goals as goal

pub loop-r-preserved : goal.loop-r-preserved
loop-r-preserved c =
    let first = row_at c.args.frame.now ClassDefs c.loop-r.r in
    c.mark.ensures c.args.frame.now c.loop-r.r (sym (c.u32_at-class_idx.ensures ∙ uint_at_row c.args.frame.now c.row.result.now first 32 0 first c.row.ensures.bytes (omega arith) (omega arith))) c.loop-r.invariant
