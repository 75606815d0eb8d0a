use Rattle.dexval.proofs.Common.{◌+◌, ap, refl, arith, sum_by_more}
use Rattle.std.proofs.lemmas.Fn.{says_at}
use Rattle.dexval.proofs.weight.listed_weight.Goals as goal

pub loop-item-preserved : goal.loop-item-preserved
loop-item-preserved g c = λ weighs says.
    let item = c.item-item.result in
    omega (arith, sum_by_more (λ x. 4 + weighs x) c.args.items.now c.loop-item.item-index item c.loop-item-test.true, ap weighs c.item-item.is, says item c.weight_of.result (says_at g.F.Fn c.weight_of.ensures refl), c.loop-item.invariant weighs says, c.saturating_add.ensures, c.saturating_add-weight.ensures)
