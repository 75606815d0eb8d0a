use Rattle.dexids.proofs.Common.{Holds, ReadTo}
use Rattle.dexids.proofs.reading.read_table.Given as goal

abbrev pub invariant-loop-i : goal.invariant-loop-i
invariant-loop-i g l = record { rows : ReadTo (g.R.TableReader.is_row l.reader) (Holds g.R.TableReader.condition) (g.R.TableReader.file l.reader) l.rows.items l.i; memory : g.R.TableReader.remembers l.reader l.memory }
