use Rattle.dexmembers.proofs.Common.{debug_in, code_in}
use Rattle.dexmembers.proofs.Weighed.{members_are}
use Rattle.dexmembers.proofs.weighing.members_weight_law.Goals as goal

pub returns : goal.returns
returns c = λ m x rising known.
    members_are m (λ y is. c.code_weight_law.ensures m y (code_in m y) rising (c.code_meaning_law.ensures.encodes m y is)) (λ d is. c.debug_unindexed_law.ensures.weight m d (debug_in m d) (c.debug_meaning_law.ensures.encodes m d is)) x known
