use Rattle.dexlayout.proofs.SharedUses.{uses_again}
use Rattle.dexlayout.proofs.sharing.Sharing.add_again.Goals as goal

pub returns-clause-added : goal.returns-clause-added
returns-clause-added g c = λ uses h. uses_again g.T.PartialEq.eq g.met.T.Eq.laws h c.args.place c.requires c.index.result.now c.index.ensures c.push.new.self.items c.in_ok-push.ensures.items
