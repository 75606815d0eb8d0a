use Rattle.dexspec.proofs.determined.OneRow.{one_type_list}
use Rattle.dexlaws.proofs.items.rows.type_list_is_determined.Goals as goal

pub returns : goal.returns
returns c = one_type_list
