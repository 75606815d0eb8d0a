use Rattle.dexval.proofs.Common.{ap, visibility_of}
use Rattle.dexval.proofs.Members.{annotation_with}
use Rattle.dexval.proofs.annotation.Annotation.renumbered_copy.Goals as goal

pub returns : goal.returns
returns c = ap (annotation_with (visibility_of c.args.self.now.visibility)) c.in_ok-renumbered_copy.ensures
