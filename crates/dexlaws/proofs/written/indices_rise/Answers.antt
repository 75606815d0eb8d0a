use Rattle.dexspec.proofs.normal.MemberRanks as ranks
use Rattle.dexlaws.proofs.written.indices_rise.Goals as goal

pub returns : goal.returns
returns c = ranks.indices_rise
