use Rattle.std.proofs.Common.{ap, ◌∙◌}
use Rattle.std.proofs.lemmas.Iterator.Consumers.{YieldsList-end}
use Rattle.std.proofs.lemmas.Iterator.Splits.{YieldsList-from_lines}
use Rattle.std.specs.List.{filter}
use Rattle.dexargs.specs.Lists.{is_argument}
use Rattle.dexargs.proofs.lists.arguments_of_lines.Goals as goal

pub returns : goal.returns
returns c =
    let ended = YieldsList-end (YieldsList-from_lines c.args.text.now cc) c.loop-line.yielded _ c.loop-line.yielded_by _ _ c.in-None.is c.next.ensures.steps in
    c.loop-line.invariant ∙ ap (filter is_argument) ended.0
