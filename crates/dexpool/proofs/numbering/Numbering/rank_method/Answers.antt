use Rattle.dexpool.proofs.Common.{refl, rules, get_or, [], of_calls, is_lt, Method, method_cmp, method_total}
use Rattle.dexpool.proofs.Ranking.{rank_by_halving}
use Rattle.dexpool.proofs.numbering.Numbering.rank_method.Goals as goal

none : Method
none = record { class = []; name = []; proto = record { return_type = []; parameters = [] } }

pub returns : goal.returns
returns c =
    rank_by_halving method_cmp method_total c.args.method.now c.args.self.now.methods none c.count_less.result _ refl c.count_less.ensures.within c.count_less.ensures.numbering.rising.methods_rise
    (c.count_less.ensures.less (λ i. is_lt (method_cmp (get_or c.args.self.now.methods i none) c.args.method.now)) (λ i o lt p. search (rules, of_calls)))
