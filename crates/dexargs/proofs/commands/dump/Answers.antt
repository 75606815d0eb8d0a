use Rattle.std.proofs.lemmas.Result.{IfOk-weaker}
use Rattle.dexargs.proofs.Made.{added}
use Rattle.dexargs.proofs.commands.dump.Goals as goal

pub returns : goal.returns
returns c =
    let to_1 = added c.described.ensures c.flag.ensures c.in_ok-arg.ensures in
    let to_2 = added to_1 c.class.ensures c.in_ok-arg-2.ensures in
    let to_3 = added to_2 c.one.ensures c.in_ok-arg-3.ensures in
    IfOk-weaker c.arg-4.result _ _ (λ command adds. added to_3 c.verbose.ensures adds) c.arg-4.ensures
