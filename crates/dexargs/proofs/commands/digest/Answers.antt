use Rattle.std.proofs.lemmas.Result.{IfOk-weaker}
use Rattle.dexargs.proofs.commands.digest.Goals as goal

pub returns : goal.returns
returns c = IfOk-weaker c.stripping.result _ _ (λ command adds. adds _ c.described-command.ensures) c.stripping.ensures
