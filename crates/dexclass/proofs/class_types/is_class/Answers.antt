use Rattle.dexclass.proofs.Common.{sym, ◌∙◌, eq-eqb, eqb-true}
use Rattle.dexclass.proofs.ClassStarts.{class_some, class_starts}
use Rattle.dexclass.proofs.class_types.is_class.Goals as goal

pub returns-in_default : goal.returns-in_default
returns-in_default c = ((λ t. absurd cc), (λ class. absurd (class_some c.args.descriptor.now (sym c.units.ensures.same ∙ c.in_default.ensures.steps.0) class)))

pub returns : goal.returns
returns c =
    let starts = class_starts c.args.descriptor.now c.next.new.self c.in-Some.first (sym c.units.ensures.same ∙ c.in-Some.ensures.steps) c.requires in
    (λ t. starts.0 (eqb-true c.in-Some.first 0x4c t), λ class. eq-eqb c.in-Some.first 0x4c (starts.1 class))
