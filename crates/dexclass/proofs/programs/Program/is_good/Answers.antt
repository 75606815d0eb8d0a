use Rattle.dexclass.proofs.Common.{subst, Collection, definitions, AreWellFormed}
use Rattle.dexclass.proofs.programs.Program.is_good.Goals as goal

pub returns-clause-formed : goal.returns-clause-formed
returns-clause-formed c = subst (λ (K : Collection). AreWellFormed (definitions K)) c.self.view_is c.self.invariant.formed
