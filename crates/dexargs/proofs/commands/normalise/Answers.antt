use Rattle.std.proofs.lemmas.Result.{IfOk-weaker}
use Rattle.dexargs.proofs.Made.{aliased}
use Rattle.dexargs.proofs.commands.normalise.Goals as goal

pub returns : goal.returns
returns c =
    let named = aliased _ _ _ _ c.described-command.ensures c.in_ok-visible_alias.ensures in
    IfOk-weaker c.file_and_out.result _ _ (λ command adds. adds _ named) c.file_and_out.ensures
