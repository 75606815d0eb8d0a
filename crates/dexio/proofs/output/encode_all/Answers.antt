use Rattle.dexio.proofs.Common.{sym, subst, All-get_or}
use Rattle.dexio.proofs.Encoded.{given_more, given_all}
use Rattle.dexio.proofs.output.encode_all.Goals as goal

pub encode-requires : goal.encode-requires
encode-requires g c = subst g.T.Encode.formed (sym c.item-item.is) (All-get_or g.T.Encode.formed c.args.items.now c.loop-item.item-index c.item-item.result c.loop-item-test.true c.requires)

pub loop-item-preserved : goal.loop-item-preserved
loop-item-preserved g c =
    given_more g.O.Output.gives g.met.O.Output.both g.T.Encode.bytes c.args.items.now c.loop-item.item-index c.item-item.result c.args.out.now c.loop-item.out c.encode.new.out c.loop-item-test.true c.loop-item.invariant
    (subst (λ x. g.O.Output.gives (g.T.Encode.bytes x) c.loop-item.out c.encode.new.out) c.item-item.is c.encode.ensures)

pub returns : goal.returns
returns g c = given_all g.O.Output.gives g.met.O.Output.both g.T.Encode.bytes c.args.items.now c.loop-item.item-index c.args.out.now c.loop-item.out c.loop-item-test.false c.loop-item.invariant
