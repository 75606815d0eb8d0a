use Rattle.dexmembers.proofs.Common.{◌^◌, ◌-◌, min, length, refl, arith, encoded_put}
use Rattle.dexmembers.proofs.class_data_put.append.Goals as goal

pub returns : goal.returns
returns g c =
    let bytes = g.T.Encode.bytes c.args.item.now in
    let a = c.args.out.now in
    encoded_put bytes (min (2 ^ 64 - 1) (length bytes)) a a c.encode.new.out _ refl refl refl (omega (arith, c.requires.most)) (omega arith) c.encode.ensures
