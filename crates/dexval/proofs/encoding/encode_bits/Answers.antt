use Rattle.dexval.proofs.Common.{subst}
use Rattle.dexval.proofs.LowBytes.{bits_shifted}
use Rattle.dexval.proofs.encoding.encode_bits.Goals as goal

pub returns : goal.returns
returns g c = subst (λ bs. g.O.Output.gives bs c.args.out.now c.encode_low.new.out) (bits_shifted c.args.code c.args.width c.bits_width-left.result c.args.bits c.bits_width-left.ensures.width) c.encode_low.ensures
