use Rattle.dexpool.proofs.Common.{refl, rules, get_or, [], of_calls, is_lt, Proto, proto_cmp, proto_total}
use Rattle.dexpool.proofs.Ranking.{rank_by_halving}
use Rattle.dexpool.proofs.numbering.Numbering.rank_proto.Goals as goal

none : Proto
none = record { return_type = []; parameters = [] }

pub returns : goal.returns
returns c =
    rank_by_halving proto_cmp proto_total c.args.proto.now c.args.self.now.protos none c.count_less.result _ refl c.count_less.ensures.within c.count_less.ensures.numbering.rising.protos_rise
    (c.count_less.ensures.less (λ i. is_lt (proto_cmp (get_or c.args.self.now.protos i none) c.args.proto.now)) (λ i o lt p. search (rules, of_calls)))
