use Rattle.dexids.proofs.Common.{refl, rules}
use Rattle.dexids.proofs.Steps.{no_descriptor}
use Rattle.dexids.proofs.types.type_at.Goals as goal

pub returns-in_err-descriptor_kind : goal.returns-in_err-descriptor_kind
returns-in_err-descriptor_kind c = rw c.from_residual-in_err-descriptor_kind.ensures (λ holds. no_descriptor c.args.frame.now c.args.strings.now c.args.i _ c.in_ok-get.field-0.now holds.item c.requires.strings c.type_index-index.ensures (search rules) (search rules) (c.in_err-descriptor_kind.ensures.none.0 refl) holds.is)
