use Rattle.dexids.proofs.Common.{refl, sym, ◌∙◌, arith, row_at, ProtoIds}
use Rattle.dexids.proofs.Bytes.{uint_at_row}
use Rattle.dexids.proofs.protos.indices_at.Goals as goal

pub returns : goal.returns
returns c =
    let at = row_at c.args.frame.now ProtoIds c.args.i in
    record {
      shorty_is = sym (c.u32_at.ensures ∙ uint_at_row c.args.frame.now c.row-row.result.now at 12 0 at c.row-row.ensures.bytes (omega arith) (omega arith));
      return_is = sym (c.u32_at-2.ensures ∙ uint_at_row c.args.frame.now c.row-row.result.now at 12 4 _ c.row-row.ensures.bytes (omega arith) refl);
      off_is = sym (c.u32_at-3.ensures ∙ uint_at_row c.args.frame.now c.row-row.result.now at 12 8 _ c.row-row.ensures.bytes (omega arith) refl);
    }
