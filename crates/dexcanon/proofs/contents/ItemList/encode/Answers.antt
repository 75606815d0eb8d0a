use Rattle.dexcanon.proofs.Common.{◌+◌, [], drop, get_or, ap, arith, concat, drop_all, completes_none, completes_more, completes_all}
use Rattle.dexcanon.proofs.Rows.{next_item}
use Rattle.dexcanon.proofs.contents.ItemList.encode.Goals as goal

pub loop-i-init : goal.loop-i-init
loop-i-init g c = completes_none g.O.Output.gives (concat (g.Self.ItemList.items c.args.contents.now)) c.args.out.now

pub encode_item-requires-clause-within : goal.encode_item-requires-clause-within
encode_item-requires-clause-within g c = omega (arith, c.loop-i-test.true, c.requires.all)

pub loop-i-preserved : goal.loop-i-preserved
loop-i-preserved g c =
    let xs = g.Self.ItemList.items c.args.contents.now in
    let i = c.loop-i.i in
    completes_more g.O.Output.gives g.met.O.Output.both (get_or xs i []) (concat (drop (i + 1) xs)) (concat (drop i xs)) (concat xs) c.args.out.now c.loop-i.out c.encode_item.new.out (next_item xs i (omega (arith, c.loop-i-test.true, c.requires.all))) c.loop-i.invariant c.encode_item.ensures

pub returns : goal.returns
returns g c =
    let xs = g.Self.ItemList.items c.args.contents.now in
    completes_all g.O.Output.gives g.met.O.Output.nothing (concat (drop c.loop-i.i xs)) (concat xs) c.args.out.now c.loop-i.out (ap concat (drop_all c.loop-i.i xs (omega (arith, c.loop-i-test.false, c.requires.all)))) c.loop-i.invariant
