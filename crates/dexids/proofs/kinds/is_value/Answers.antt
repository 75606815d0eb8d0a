use Rattle.dexids.proofs.Common.{not, ap, sym, ◌∙◌, ne_eqb}
use Rattle.std.proofs.lemmas.Bool.{not-true, eqb-false}
use Rattle.dexids.proofs.FirstUnits.{value_if, value_not}
use Rattle.dexids.proofs.kinds.is_value.Goals as goal

pub returns : goal.returns
returns c = (
  λ t. value_if c.args.descriptor.now c.requires (λ e. eqb-false c.first.result 86 (not-true _ t) (c.first.ensures ∙ e)),
  λ v. ap not (ne_eqb c.first.result 86 (λ e. value_not c.args.descriptor.now v (sym c.first.ensures ∙ e))),
)
