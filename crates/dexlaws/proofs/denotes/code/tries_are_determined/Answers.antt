use Rattle.dexspec.proofs.determined.OneCode.{one_try_items, one_tries}
use Rattle.dexlaws.proofs.denotes.code.tries_are_determined.Goals as goal

pub returns : goal.returns
returns c = record { items = one_try_items; tries = one_tries }
