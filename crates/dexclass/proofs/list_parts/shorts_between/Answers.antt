use Rattle.dexclass.proofs.Common.{◌∙◌, ◌*◌, ◌-◌, ap, take}
use Rattle.dexclass.proofs.Shorts.{shorts_between}
use Rattle.dexclass.proofs.list_parts.shorts_between.Goals as goal

pub returns : goal.returns
returns c =
    shorts_between c.args.whole.now c.split_at-2.result.0.now c.args.start c.args.end c.requires.ordered c.requires.within
    (c.split_at-2.ensures.front ∙ ap (take (2 * (c.args.end - c.args.start))) c.split_at.ensures.back)
