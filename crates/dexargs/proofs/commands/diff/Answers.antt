use Rattle.std.proofs.lemmas.Result.{IfOk-weaker}
use Rattle.dexargs.proofs.Made.{added}
use Rattle.dexargs.proofs.commands.diff.Goals as goal

pub returns : goal.returns
returns c =
    let to_1 = added c.described.ensures c.flag.ensures c.in_ok-arg.ensures in
    let to_2 = added to_1 c.null.ensures c.in_ok-arg-2.ensures in
    let to_3 = added to_2 c.sides.ensures c.in_ok-arg-3.ensures in
    let to_4 = added to_3 c.sides-2.ensures c.in_ok-arg-4.ensures in
    let to_5 = added to_4 c.side.ensures c.in_ok-arg-5.ensures in
    let to_6 = added to_5 c.side-2.ensures c.in_ok-arg-6.ensures in
    IfOk-weaker c.arg-7.result _ _ (λ command adds. added to_6 c.verbose.ensures adds) c.arg-7.ensures
