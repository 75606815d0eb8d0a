use Rattle.dexclass.proofs.PartsOf.{program_mergeable}
use Rattle.dexclass.proofs.programs.Program.into_part.Goals as goal

pub invariant_of-result : goal.invariant_of-result
invariant_of-result c =
    let parts = c.into_parts-numbering in
    program_mergeable c.args.self parts.result.0 parts.result.1.items parts.ensures.numbering parts.ensures.classes c.is_good.ensures.good c.is_good.ensures.formed
