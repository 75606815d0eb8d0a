use Rattle.dexcanon.proofs.Common.{◌≡◌, subst, IfOk}
use Rattle.dexcanon.proofs.writing.to_bytes.Goals as goal

pub returns-clause-bytes : goal.returns-clause-bytes
returns-clause-bytes c = subst (λ z. IfOk c.whole_file.result (λ file. file.items ≡ z)) c.of-contents.ensures.whole c.whole_file.ensures
