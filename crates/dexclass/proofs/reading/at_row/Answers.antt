use Rattle.dexclass.proofs.Common.{refl, sym, subst, ItemFault, Refused}
use Rattle.dexclass.specs.internal.Checked.{IsFaultAtRow}
use Rattle.dexclass.proofs.reading.at_row.Goals as goal

pub returns-in-Refused : goal.returns-in-Refused
returns-in-Refused c = subst (λ (f : ItemFault). IsFaultAtRow f c.args.r (Refused (record { number = c.in-Refused.number; place = c.args.r }))) (sym c.in-Refused.is) refl
