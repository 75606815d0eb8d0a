use Rattle.std.proofs.lemmas.Result.{IfOk-weaker}
use Rattle.dexargs.proofs.Made.{adds_first, adds_next}
use Rattle.dexargs.proofs.commands.with_out.Goals as goal

pub returns : goal.returns
returns c =
    let one = adds_first _ _ _ _ c.out.ensures c.in_ok-arg.ensures in
    let to_2 = adds_next _ _ _ _ _ _ one c.flag.ensures c.in_ok-arg-2.ensures in
    IfOk-weaker c.arg-3.result _ _ (λ command adds. adds_next _ _ _ _ _ _ to_2 c.flag-2.ensures adds) c.arg-3.ensures
