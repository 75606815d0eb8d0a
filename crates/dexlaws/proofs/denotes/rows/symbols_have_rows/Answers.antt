use Rattle.dexspec.proofs.determined.Denoted.{has_classes}
use Rattle.dexspec.proofs.wellformed.SymbolRows.{row_symbols}
use Rattle.dexlaws.proofs.denotes.rows.symbols_have_rows.Goals as goal

pub returns : goal.returns
returns c = λ b r name k s h members row m. row_symbols b (has_classes b h).few r name k row members s m
