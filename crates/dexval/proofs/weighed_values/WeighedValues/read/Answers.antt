use Rattle.dexval.proofs.Common.{sym, ◌∙◌, arith, vec_len}
use Rattle.std.proofs.lemmas.Bool.{eqb-true, eqb-false}
use Rattle.dexval.proofs.Weights.{statics_of_values}
use Rattle.dexval.proofs.weighed_values.WeighedValues.read.Goals.{then-is_empty, else-is_empty}
use Rattle.dexval.proofs.weighed_values.WeighedValues.read.Goals as goal

pub invariant_of-result : goal.invariant_of-result
invariant_of-result c =
    let r = c.in_ok-values in
    let weighed = statics_of_values r.values.items r.tally.weight c.if-is_empty.weight r.ensures.tallied.weighs in (
      elim c.if-is_empty.branch [
        | then-is_empty w ↦ weighed (λ none. w.weight-is) (λ some. absurd (omega (arith, some, r.values.ok.0, eqb-true (vec_len r.values) 0 (sym c.is_empty.ensures ∙ w.if-is_empty.true))))
        | else-is_empty w ↦ weighed (λ none. absurd (omega (arith, none, r.values.ok.0, eqb-false (vec_len r.values) 0 (sym c.is_empty.ensures ∙ w.if-is_empty.false)))) (λ some. omega (arith, w.weight-is, w.saturating_add-weight.ensures))
      ],
      r.ensures.tallied.nameless,
      tt,
    )
