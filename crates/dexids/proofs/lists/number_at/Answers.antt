use Rattle.dexids.proofs.Common.{◌≡◌, ◌∙◌, ◌+◌, ◌*◌, ◌/◌, length, ap, sym, arith, ushort_at, short_of}
use Rattle.dexids.proofs.lists.number_at.Goals as goal

pub returns : goal.returns
returns c = let first : 2 * c.args.i ≡ 0 + 2 * c.args.i = omega arith in c.u16_at.ensures ∙ ap (ushort_at c.args.bytes.now) first ∙ sym (short_of c.args.bytes.now 0 (length c.args.bytes.now / 2) c.args.i 0 c.requires)
