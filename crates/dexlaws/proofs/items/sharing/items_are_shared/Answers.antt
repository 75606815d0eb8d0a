use Rattle.dexspec.specs.Sameness.{same_types, same_debug, same_set}
use Rattle.dexspec.proofs.sharing.Sameness.{types_decide, debug_decides, set_decides}
use Rattle.dexlaws.proofs.Shared.{shared}
use Rattle.dexlaws.proofs.items.sharing.items_are_shared.Goals as goal

pub returns : goal.returns
returns c = record { type_lists = shared same_types types_decide; debugs = shared same_debug debug_decides; sets = shared same_set set_decides }
