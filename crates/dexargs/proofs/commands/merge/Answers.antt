use Rattle.std.proofs.lemmas.Result.{IfOk-weaker}
use Rattle.dexargs.proofs.Made.{added}
use Rattle.dexargs.proofs.commands.merge.Goals as goal

pub returns : goal.returns
returns c =
    let fan = added (c.in_ok-command.ensures _ c.described.ensures) c.number.ensures c.in_ok-command-2.ensures in
    let caps = c.in_ok-with_caps.ensures _ fan in
    IfOk-weaker c.over_files.result _ _ (λ command adds. adds _ caps) c.over_files.ensures
