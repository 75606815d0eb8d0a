use Rattle.dexpool.proofs.Common.{get_or, subst, DenotesField}
use Rattle.dexpool.proofs.pools.Pools.field.Goals as goal

pub returns : goal.returns
returns c = λ d. subst (λ m. DenotesField m c.field.result.now (get_or m.fields c.args.i d)) c.self.view_is (c.field.ensures d)
