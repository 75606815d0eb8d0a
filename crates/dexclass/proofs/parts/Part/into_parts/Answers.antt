use Rattle.dexclass.proofs.PartsOf.{all_good}
use Rattle.dexclass.proofs.parts.Part.into_parts.Goals as goal

pub invariant_of-result : goal.invariant_of-result
invariant_of-result c = all_good c.self.inside.numbering c.self.inside.classes.items c.self.invariant c.is_numbering.ensures
