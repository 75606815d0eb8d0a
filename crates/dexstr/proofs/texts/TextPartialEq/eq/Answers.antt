use Rattle.dexstr.proofs.Forms.{same_texts}
use Rattle.dexstr.proofs.texts.TextPartialEq.eq.Goals as goal

pub returns : goal.returns
returns c = same_texts c.self.inside.bytes.now c.other.inside.bytes.now c.args.self.now c.args.other.now c.eq.result c.self.invariant.spelled c.other.invariant.spelled c.self.view_is c.other.view_is c.eq.ensures
