use Rattle.dexval.proofs.Common.{◌+◌, sum_by, AreChecked, IsWeighed, HasPools, set_weight_in}
use Rattle.dexval.proofs.DirectoryRead.{HaveReadList}
use Rattle.dexval.proofs.directory_member.ListOfMemberOfMember.checked_at.Given as goal

abbrev pub invariant-loop-i : goal.invariant-loop-i
invariant-loop-i l = record { checked : HasPools l.file.frame.now l.file.pools.now → AreChecked l.file.frame.now l.file.pools.now l.checked; weighed : HasPools l.file.frame.now l.file.pools.now → IsWeighed (HaveReadList l.file.frame.now (l.off + 4) l.file.pools.now l.i) (λ ss. l.list + sum_by (set_weight_in l.file.pools.now) ss) l.weight }
