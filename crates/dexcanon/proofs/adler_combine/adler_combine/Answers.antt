use Rattle.dexcanon.proofs.Common.{◌∙◌}
use Rattle.dexcanon.proofs.JoinedSums as sums
use Rattle.dexcanon.proofs.adler_combine.adler_combine.Goals as goal

pub returns : goal.returns
returns c = λ xs ys front back len.
    sums.joined_adler xs ys c.args.front c.args.back c.from.result c.halves-front_first.result c.halves-back_first.result c.halves-front_first.ensures c.halves-back_first.ensures front back (c.from.ensures ∙ len)
