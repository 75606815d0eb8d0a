use Rattle.std.proofs.lemmas.Result.{IfOk-weaker}
use Rattle.dexargs.proofs.commands.repair.Goals as goal

pub returns : goal.returns
returns c = IfOk-weaker c.file_and_out.result _ _ (λ command adds. adds _ c.described.ensures) c.file_and_out.ensures
