use Rattle.dexlayout.proofs.Common.{length, flat_map, uint}
use Rattle.dexlayout.proofs.items.OffsetListEncode.encode.Goals as goal

pub returns : goal.returns
returns g c = g.met.O.Output.both (uint (length c.args.self.now.offsets.now)) (flat_map uint c.args.self.now.offsets.now) c.args.out.now c.u32.new.self c.encode_numbers.new.out c.u32.ensures c.encode_numbers.ensures
