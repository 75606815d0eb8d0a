use Rattle.dexcanon.proofs.Digested.{file_alone}
use Rattle.dexcanon.proofs.digest.digests.Goals as goal

pub returns-in_err-of-clause-files : goal.returns-in_err-of-clause-files
returns-in_err-of-clause-files c = λ d. file_alone c.args.program.now d c.is_good.ensures.good c.is_good.ensures.formed c.normal_form.ensures.accepted c.normal_form.ensures.denotes

pub returns-clause-files : goal.returns-clause-files
returns-clause-files c = λ d. file_alone c.args.program.now d c.is_good.ensures.good c.is_good.ensures.formed c.normal_form.ensures.accepted c.normal_form.ensures.denotes
