use Rattle.dexclass.proofs.Common.{arith, subst, sym, Collection}
use Rattle.dexclass.specs.{AreClassesOf}
use Rattle.dexclass.proofs.ProgramClasses.{classes_count, class_is_at}
use Rattle.dexclass.proofs.programs.Program.class.Goals as goal

pub index-requires : goal.index-requires
index-requires c =
    omega (arith, (classes_count c.args.self.now c.self.inside.classes.items (subst (λ (K : Collection). AreClassesOf K c.self.inside.classes.items) c.self.view_is c.self.invariant.classes_are)))

pub returns : goal.returns
returns c =
    class_is_at c.args.self.now c.self.inside.classes.items (subst (λ (K : Collection). AreClassesOf K c.self.inside.classes.items) c.self.view_is c.self.invariant.classes_are) c.args.i c.index.result.now c.requires (sym c.index.ensures)
