use Rattle.dexpool.proofs.Common.{get_or, subst, DenotesMethod}
use Rattle.dexpool.proofs.pools.Pools.method.Goals as goal

pub returns : goal.returns
returns c = λ d. subst (λ m. DenotesMethod m c.method.result.now (get_or m.methods c.args.i d)) c.self.view_is (c.method.ensures d)
