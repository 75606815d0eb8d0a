use Rattle.dexval.proofs.Common.{◌^◌, ◌≤◌, sum_by, AreChecked, IsWeighed, HasPools}
use Rattle.dexval.proofs.DirectoryRead.{HaveReadPairs}
use Rattle.dexval.proofs.directory_cache.File.weigh_members.Given as goal

abbrev pub invariant-loop-i : goal.invariant-loop-i
invariant-loop-i g l = record {
  least_fits : l.least ≤ 2 ^ 32;
  checked : HasPools l.self.frame.now l.self.pools.now → AreChecked l.self.frame.now l.self.pools.now l.checked;
  weighed : HasPools l.self.frame.now l.self.pools.now → IsWeighed (HaveReadPairs (g.T.OfMember.is_known l.self.pools.now) (g.T.OfMember.inside l.self.pools.now) g.T.OfMember.encodes l.self.frame.now l.pairs.at l.pairs.limit l.i l.least) (sum_by (λ e. g.T.OfMember.weighs (g.T.OfMember.inside l.self.pools.now e.1))) l.weight;
}
