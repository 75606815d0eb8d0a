use Rattle.std.proofs.lemmas.Result.{IfOk-weaker}
use Rattle.dexargs.proofs.Made.{added}
use Rattle.dexargs.proofs.commands.count.Goals as goal

pub returns : goal.returns
returns c =
    let each = added c.described-command.ensures c.flag.ensures c.in_ok-arg.ensures in
    let both = added each c.by.ensures c.in_ok-command.ensures in
    IfOk-weaker c.over_files.result _ _ (λ command adds. adds _ both) c.over_files.ensures
