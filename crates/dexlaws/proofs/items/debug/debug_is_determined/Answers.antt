use Rattle.dexspec.proofs.determined.OneDebug.{one_debug}
use Rattle.dexlaws.proofs.items.debug.debug_is_determined.Goals as goal

pub returns : goal.returns
returns c = one_debug
