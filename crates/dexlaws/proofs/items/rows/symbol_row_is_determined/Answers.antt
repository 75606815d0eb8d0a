use Rattle.dexspec.proofs.determined.OneRow.{one_symbol}
use Rattle.dexlaws.proofs.items.rows.symbol_row_is_determined.Goals as goal

pub returns : goal.returns
returns c = one_symbol
