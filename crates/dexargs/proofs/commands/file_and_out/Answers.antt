use Rattle.std.proofs.lemmas.Result.{IfOk-weaker}
use Rattle.dexargs.proofs.Made.{adds_first, adds_next}
use Rattle.dexargs.proofs.commands.file_and_out.Goals as goal

pub returns : goal.returns
returns c =
    let one = adds_first _ _ _ _ c.flag.ensures c.in_ok-arg.ensures in
    let to_2 = adds_next _ _ _ _ _ _ one c.one.ensures c.in_ok-arg-2.ensures in
    let to_3 = adds_next _ _ _ _ _ _ to_2 c.one-2.ensures c.in_ok-arg-3.ensures in
    IfOk-weaker c.arg-4.result _ _ (λ command adds. adds_next _ _ _ _ _ _ to_3 c.verbose.ensures adds) c.arg-4.ensures
