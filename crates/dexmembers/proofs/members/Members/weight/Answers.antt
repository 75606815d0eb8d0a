use Rattle.dexmembers.proofs.Common.{ap, ◌∙◌, ◌+◌, ◌-◌, ◌^◌, List, arith, min, sum_by, ℕ}
use Rattle.dexmembers.specs.{NumberedMembers, NumberedMethod, method_code_weight, own_members_weight}
use Rattle.dexmembers.proofs.CodesApart.{weighed_apart}
use Rattle.dexmembers.proofs.members.Members.weight.Goals as goal

pub returns-clause-numbered : goal.returns-clause-numbered
returns-clause-numbered c =
    let weigh = λ (l : List NumberedMethod). min (2 ^ 64 - 1) (sum_by method_code_weight l) in
    let whole = c.weight_with.ensures ∙ ap (λ (x : NumberedMembers). min (2 ^ 64 - 1) (c.saturating_add.result + own_members_weight x)) c.self.view_is in
    weighed_apart c.args.self.now c.codes_weight-direct.result c.codes_weight-virtuals.result c.weight_with.result (c.codes_weight-direct.ensures ∙ ap weigh c.direct_methods.ensures) (c.codes_weight-virtuals.ensures ∙ ap weigh c.virtual_methods.ensures)
    (omega (arith, whole, c.saturating_add.ensures))

pub returns-clause-symbolic : goal.returns-clause-symbolic
returns-clause-symbolic c = λ m rising known.
    let weigh = λ (l : List NumberedMethod). min (2 ^ 64 - 1) (sum_by method_code_weight l) in
    let whole = c.weight_with.ensures ∙ ap (λ (x : NumberedMembers). min (2 ^ 64 - 1) (c.saturating_add.result + own_members_weight x)) c.self.view_is in
    weighed_apart c.args.self.now c.codes_weight-direct.result c.codes_weight-virtuals.result c.weight_with.result (c.codes_weight-direct.ensures ∙ ap weigh c.direct_methods.ensures) (c.codes_weight-virtuals.ensures ∙ ap weigh c.virtual_methods.ensures)
    (omega (arith, whole, c.saturating_add.ensures))
    ∙ ap (λ (n : ℕ). min (2 ^ 64 - 1) n) (c.members_weight_law.ensures m c.args.self.now rising known)
