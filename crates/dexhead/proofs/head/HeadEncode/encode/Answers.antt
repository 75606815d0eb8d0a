use Rattle.dexhead.proofs.Common.{head_bytes}
use Rattle.dexio.proofs.Encoded.{then_given}
use Rattle.dexhead.proofs.head.HeadEncode.encode.Goals as goal

pub returns : goal.returns
unfolding head_bytes
returns g c =
    then_given g.O.Output.gives g.met.O.Output.both c.bytes.ensures
    (then_given g.O.Output.gives g.met.O.Output.both c.u32.ensures
    (then_given g.O.Output.gives g.met.O.Output.both c.bytes-2.ensures c.encode_fields.ensures))
