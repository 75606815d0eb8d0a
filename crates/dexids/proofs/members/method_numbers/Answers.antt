use Rattle.dexids.proofs.Common.{refl, sym, ◌∙◌, arith, row_at, MethodIds}
use Rattle.dexids.proofs.Bytes.{uint_at_row, ushort_at_row}
use Rattle.dexids.proofs.members.method_numbers.Goals as goal

pub returns : goal.returns
returns c =
    let at = row_at c.args.frame.now MethodIds c.args.i in
    record {
      class = sym (c.from.ensures ∙ c.u16_at.ensures ∙ ushort_at_row c.args.frame.now c.row-row.result.now at 8 0 at c.row-row.ensures.bytes (omega arith) (omega arith));
      proto = sym (c.from-2.ensures ∙ c.u16_at-2.ensures ∙ ushort_at_row c.args.frame.now c.row-row.result.now at 8 2 _ c.row-row.ensures.bytes (omega arith) refl);
      name = sym (c.u32_at.ensures ∙ uint_at_row c.args.frame.now c.row-row.result.now at 8 4 _ c.row-row.ensures.bytes (omega arith) refl);
    }
