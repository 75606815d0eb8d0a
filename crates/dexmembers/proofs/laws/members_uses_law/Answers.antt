use Rattle.dexmembers.proofs.Common.{code_in}
use Rattle.dexmembers.proofs.MembersUsed.{members_used, members_marked}
use Rattle.dexmembers.proofs.laws.members_uses_law.Goals as goal

pub returns-clause-uses : goal.returns-clause-uses
returns-clause-uses c = λ m name x rising known of.
    members_used m (λ item is. c.code_uses_law.ensures.uses m item (code_in m item) rising (c.code_meaning_law.ensures.encodes m item is)) name x known of

pub returns-clause-marks : goal.returns-clause-marks
returns-clause-marks c = λ m marks x are known.
    members_marked m marks are (λ item is. c.code_uses_law.ensures.marks m marks item (code_in m item) are (c.code_meaning_law.ensures.encodes m item is)) x known
