use Rattle.dexclass.proofs.Common.{arith, subst, Collection}
use Rattle.dexclass.specs.{AreClassesOf}
use Rattle.dexclass.proofs.ProgramClasses.{classes_count}
use Rattle.dexclass.proofs.programs.Program.len.Goals as goal

pub returns : goal.returns
returns c =
    omega (arith, (classes_count c.args.self.now c.self.inside.classes.items (subst (λ (K : Collection). AreClassesOf K c.self.inside.classes.items) c.self.view_is c.self.invariant.classes_are)))
