use Rattle.dexspec.proofs.normal.NormalForm.{canonical_rows_hold}
use Rattle.dexlaws.proofs.normal.rows_hold.Goals as goal

pub returns : goal.returns
returns c = canonical_rows_hold
