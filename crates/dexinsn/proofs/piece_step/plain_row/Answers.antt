use Rattle.dexinsn.proofs.Common.{ℕ, ap, ◌∙◌, subst, arith, low_byte, IsRowOf}
use Rattle.dexinsn.proofs.piece_step.plain_row.Goals as goal

pub returns : goal.returns
returns c = record {
  row_is = subst (λ (op : ℕ). IsRowOf op c.row_of-row.result) (c.opcode_in.ensures ∙ ap low_byte c.at-first.ensures.is) c.row_of-row.ensures;
  within = omega (arith, c.len.ensures.len, c.from.ensures);
  small = omega (arith, c.len.ensures.small);
  least = omega (arith, c.at-first.ensures.is);
}
