use Rattle.dexstr.proofs.Common.{◌∙◌, ap, sym, length}
use Rattle.dexstr.proofs.texts.Text.len.Goals as goal

pub returns-clause-len : goal.returns-clause-len
returns-clause-len c = sym c.self.invariant.counted ∙ ap length c.self.view_is
