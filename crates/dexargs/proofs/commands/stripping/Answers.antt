use Rattle.std.proofs.lemmas.Result.{IfOk-weaker}
use Rattle.dexargs.proofs.Made.{adds_all, adds_first}
use Rattle.dexargs.proofs.commands.stripping.Goals as goal

pub returns : goal.returns
returns c =
    let strip = adds_first _ _ _ _ c.flag.ensures c.in_ok-arg.ensures in
    IfOk-weaker c.over_files.result _ _ (λ command adds. adds_all _ _ _ _ _ strip adds) c.over_files.ensures
