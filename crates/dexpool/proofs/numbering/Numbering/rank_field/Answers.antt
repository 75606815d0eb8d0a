use Rattle.dexpool.proofs.Common.{refl, rules, get_or, [], of_calls, is_lt, Field, field_cmp, field_total}
use Rattle.dexpool.proofs.Ranking.{rank_by_halving}
use Rattle.dexpool.proofs.numbering.Numbering.rank_field.Goals as goal

none : Field
none = record { class = []; name = []; type = [] }

pub returns : goal.returns
returns c =
    rank_by_halving field_cmp field_total c.args.field.now c.args.self.now.fields none c.count_less.result _ refl c.count_less.ensures.within c.count_less.ensures.numbering.rising.fields_rise
    (c.count_less.ensures.less (λ i. is_lt (field_cmp (get_or c.args.self.now.fields i none) c.args.field.now)) (λ i o lt p. search (rules, of_calls)))
