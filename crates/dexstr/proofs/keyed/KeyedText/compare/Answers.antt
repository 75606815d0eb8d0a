use Rattle.dexstr.proofs.Common.{◌∙◌}
use Rattle.dexstr.proofs.Keys.{keys_decide}
use Rattle.dexstr.proofs.keyed.KeyedText.compare.Goals as goal

pub returns-else-self-other : goal.returns-else-self-other
returns-else-self-other c = c.cmp-else-self-other.ensures ∙ rw (← c.self.view_is, ← c.other.view_is) (keys_decide _ _ _ _ c.self.invariant c.other.invariant c.if-self-other.false)
