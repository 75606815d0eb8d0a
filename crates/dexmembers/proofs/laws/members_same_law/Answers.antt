use Rattle.dexmembers.specs.{members_in, renumbered_members}
use Rattle.dexmembers.proofs.SameMembers.{members_same}
use Rattle.dexmembers.proofs.laws.members_same_law.Goals as goal

pub returns : goal.returns
returns c = λ m n whole r s name x y rising first second remapped remapped' known known' own own'.
    let law = c.members_remapped_law.ensures in
    members_same whole rising name (renumbered_members r x) (renumbered_members s y) (members_in m x) (members_in n y) (law.keeps m whole r x first remapped known) (law.class m whole r name x first remapped own)
    (law.keeps n whole s y second remapped' known') (law.class n whole s name y second remapped' own')
