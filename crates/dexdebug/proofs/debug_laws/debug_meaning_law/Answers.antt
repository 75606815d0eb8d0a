use Rattle.dexdebug.proofs.Common.{refl, sym}
use Rattle.dexdebug.proofs.debug_laws.debug_meaning_law.Goals as goal

pub returns : goal.returns
returns c = record { known = λ m d x h. h.known; meant = λ m d x h. sym h.means; encodes = λ m d h. record { known = h; means = refl } }
