use Rattle.dexmembers.proofs.Common.{rules, sym, subst, IsTrue, answers_always}
use Rattle.dexmembers.proofs.Searched.{index_searched}
use Rattle.dexmembers.proofs.naming.has_member.Goals as goal

pub returns-clause-listed : goal.returns-clause-listed
returns-clause-listed g c = λ e.
    let facts = c.binary_search_by_key.ensures in
    (index_searched g.T.Encoded.index_of c.args.members.now c.args.index c.binary_search_by_key.result facts.bound (facts.position g.T.Encoded.index_of (answers_always _ _ _ (λ f a r h called. search rules)))).0 (subst IsTrue c.is_ok.ensures.value e)

pub returns-clause-missing : goal.returns-clause-missing
returns-clause-missing g c = λ rise there.
    let facts = c.binary_search_by_key.ensures in
    subst IsTrue (sym c.is_ok.ensures.value) ((index_searched g.T.Encoded.index_of c.args.members.now c.args.index c.binary_search_by_key.result facts.bound (facts.position g.T.Encoded.index_of (answers_always _ _ _ (λ f a r h called. search rules)))).1 rise there)
