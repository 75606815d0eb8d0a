use Rattle.dexspec.proofs.determined.OneCode.{one_catch, one_handler}
use Rattle.dexlaws.proofs.denotes.code.handler_is_determined.Goals as goal

pub returns : goal.returns
returns c = record { catch = one_catch; handler = one_handler }
