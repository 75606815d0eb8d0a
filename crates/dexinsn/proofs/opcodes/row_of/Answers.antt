use Rattle.dexinsn.proofs.Table.{rows_are}
use Rattle.dexinsn.proofs.opcodes.row_of.Goals as goal

pub row_in-requires : goal.row_in-requires
row_in-requires c = record { each = rows_are }
