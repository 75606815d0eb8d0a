use Rattle.dexstr.proofs.Common.{◌∙◌}
use Rattle.dexstr.proofs.Descriptions.{reference_letter}
use Rattle.dexstr.proofs.descriptors.shorty_letter.Goals as goal

pub returns-in-Class : goal.returns-in-Class
returns-in-Class c = c.from-in-Class.ensures ∙ reference_letter c.args.kind c.args.text.now c.requires c.in-Class.is
