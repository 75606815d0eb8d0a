use Rattle.dexio.proofs.Encoded.{encoded_put}
use Rattle.dexio.proofs.output.put_encoded.Goals as goal

pub returns : goal.returns
returns g c = encoded_put (g.T.Encode.bytes c.args.item.now) c.encoded_len.result c.args.out.now c.reserve.new.self c.encode.new.out _ c.encoded_len.ensures c.in_ok-reserve.ensures.items c.in_ok-reserve.ensures.len c.in_ok-reserve.ensures.ok c.in_ok-reserve.ensures.capacity c.encode.ensures
