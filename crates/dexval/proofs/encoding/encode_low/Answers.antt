use Rattle.dexval.proofs.Common.{◌-◌, ◌∷◌, ◌∙◌, [], ap, subst, take, bytes_of, value_byte}
use Rattle.dexval.proofs.LowBytes.{low_bytes}
use Rattle.dexval.proofs.encoding.encode_low.Goals as goal

pub returns : goal.returns
returns g c =
    let low = subst (λ bs. g.O.Output.gives bs c.byte.new.self c.bytes.new.self) (ap (take c.args.width) c.to_le_bytes-bytes.ensures ∙ low_bytes c.args.width c.args.value [] c.requires.few) c.bytes.ensures in
    g.met.O.Output.both (value_byte (c.args.width - 1) c.args.code ∷ []) (bytes_of c.args.width c.args.value) c.args.out.now c.byte.new.self c.bytes.new.self c.byte.ensures low
