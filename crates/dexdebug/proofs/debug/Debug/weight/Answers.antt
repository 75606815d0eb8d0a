use Rattle.dexdebug.proofs.Common.{ap, ◌∙◌, debug_weight, unindexed}
use Rattle.dexdebug.proofs.debug.Debug.weight.Goals as goal

pub returns : goal.returns
returns c = c.self.invariant.2 ∙ ap (λ d. debug_weight (unindexed d)) c.self.view_is
