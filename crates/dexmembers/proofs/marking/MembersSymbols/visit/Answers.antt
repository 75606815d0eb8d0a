use Rattle.dexmembers.proofs.Common.{subst, FoldsTo, visited_both, NumberedValues, values_uses}
use Rattle.dexmembers.proofs.MembersUsed.{declared_then}
use Rattle.dexmembers.specs.{declared_uses}
use Rattle.dexmembers.proofs.marking.MembersSymbols.visit.Goals as goal

pub returns : goal.returns
returns g c =
    let step = g.V.Visitor.step in
    let x = c.args.self.now in
    let start = c.args.visitor.now in
    let declared = c.visit.new.visitor in
    let end = c.visit-2.new.visitor in
    let values = subst (λ (l : NumberedValues). FoldsTo step declared (values_uses l) end) c.weighed_values.ensures c.visit-2.ensures in
    subst (λ us. FoldsTo step start us end) (declared_then x) (visited_both step start (declared_uses x) declared (values_uses x.static_values) end c.visit.ensures values)
