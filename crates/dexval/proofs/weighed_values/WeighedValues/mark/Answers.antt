use Rattle.dexval.proofs.Common.{HasMark, values_uses}
use Rattle.dexval.proofs.FewSymbols.{all_same, marked_as}
use Rattle.dexval.specs.FewSymbols.{uses_of}
use Rattle.dexval.proofs.weighed_values.WeighedValues.mark.Goals as goal

pub mark-requires : goal.mark-requires
mark-requires c = all_same (HasMark c.args.marks.now) (uses_of c.in-Some.few.now.symbols.items) (values_uses c.args.self.now) c.in-Some.ensures c.requires

pub returns-in-Some : goal.returns-in-Some
returns-in-Some c = marked_as (uses_of c.in-Some.few.now.symbols.items) (values_uses c.args.self.now) c.args.marks.now c.mark.new.marks c.in-Some.ensures c.mark.ensures
