use Rattle.dexhead.proofs.Common.{field_bytes}
use Rattle.dexio.proofs.Encoded.{nine_given}
use Rattle.dexhead.proofs.head.Head.encode_fields.Goals as goal

pub returns : goal.returns
unfolding field_bytes
returns g c =
    nine_given g.O.Output.gives g.met.O.Output.both c.u32.ensures c.u32-2.ensures c.u32-3.ensures c.u32-4.ensures c.u32-5.ensures c.u32-6.ensures
    c.encode_all.ensures c.u32-7.ensures c.u32-8.ensures
