use Rattle.dexstr.proofs.Common.{◌≡◌, [], sym, ◌∙◌, refl}
use Rattle.dexstr.proofs.Forms.{step, ends}
use Rattle.dexstr.proofs.units.UnitsIterator.next.Goals as goal

pub returns-in_err-unit-clause-steps : goal.returns-in_err-unit-clause-steps
returns-in_err-unit-clause-steps c =
    let none : c.args.self.now ≡ [] = sym c.self.view_is ∙ ends c.self.inside.bytes.now c.self.invariant c.in_err-unit.ensures.none in
    rw (c.from_residual.ensures, none) (refl, refl)

pub invariant_of-self : goal.invariant_of-self
invariant_of-self c = (step c.self.inside.bytes.now c.in_ok-unit.unit c.in_ok-unit.rest.now c.self.invariant c.in_ok-unit.ensures.found).spells
