use Rattle.dexpool.proofs.Common.{refl, rules, get_or, [], of_calls, is_lt, text_cmp, text_total}
use Rattle.dexpool.proofs.Ranking.{rank_by_halving}
use Rattle.dexpool.proofs.numbering.Numbering.rank_string.Goals as goal

pub returns : goal.returns
returns c =
    rank_by_halving text_cmp text_total c.args.text.now c.args.self.now.texts [] c.count_less.result _ refl c.count_less.ensures.within c.count_less.ensures.numbering.rising.texts_rise
    (c.count_less.ensures.less (λ i. is_lt (text_cmp (get_or c.args.self.now.texts i []) c.args.text.now)) (λ i o lt p. search (rules, of_calls)))
