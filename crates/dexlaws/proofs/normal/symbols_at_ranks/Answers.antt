use Rattle.dexspec.specs.Files.{definitions}
use Rattle.dexspec.specs.Canonical.{canonical}
use Rattle.dexspec.proofs.normal.MemberRanks.{symbols_in_rows}
use Rattle.dexspec.proofs.normal.NormalForm.{canonical_normal}
use Rattle.dexlaws.proofs.normal.symbols_at_ranks.Goals as goal

pub returns : goal.returns
returns c = λ K fits formed d in_file. symbols_in_rows (definitions K) (canonical K) (canonical_normal K fits formed) d in_file
