use Rattle.dexspec.proofs.determined.OneRow.{one_string, one_type, one_proto, one_field, one_method}
use Rattle.dexlaws.proofs.items.rows.row_is_determined.Goals as goal

pub returns : goal.returns
returns c = record { text = one_string; descriptor = one_type; proto = one_proto; field = one_field; method = one_method }
