use Rattle.dexspec.proofs.sharing.Sameness.{types_decide, debug_decides, set_decides}
use Rattle.dexlaws.proofs.items.sharing.sameness_is_equality.Goals as goal

pub returns : goal.returns
returns c = record { type_lists = types_decide; debugs = debug_decides; sets = set_decides }
