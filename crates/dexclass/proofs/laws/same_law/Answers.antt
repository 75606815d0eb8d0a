use Rattle.dexclass.proofs.SameClasses.{same_classes}
use Rattle.dexclass.proofs.laws.same_law.Goals as goal

pub returns : goal.returns
returns c = λ m n whole r s one other rising f g.
    same_classes m n whole r s one other rising (c.renumbering_law.ensures.same m whole r one f.are_mapped f.remapped f.known) (c.renumbering_law.ensures.same n whole s other g.are_mapped g.remapped g.known)
