use Rattle.dexval.proofs.Common.{◌^◌, ◌≤◌, Some, map, sum_by, HasPools, AreCached, HasCounted}
use Rattle.dexval.proofs.DirectoryRead.{HaveReadPairs}
use Rattle.dexval.proofs.Naming.{AreNoted}
use Rattle.dexval.proofs.directory_cache.File.members_at.Given as goal

abbrev pub invariant-loop-i : goal.invariant-loop-i
invariant-loop-i g l = record {
  least_fits : l.least ≤ 2 ^ 32;
  noted : AreNoted g.T.OfMember.is_held g.T.OfMember.names_set g.T.OfMember.names_list l.fn.kept.cache l.kept.cache l.members.items;
  cache : HasPools l.self.frame.now l.self.pools.now → AreCached l.self.frame.now l.self.pools.now l.kept.cache;
  read : HasPools l.self.frame.now l.self.pools.now → HasCounted (HaveReadPairs (g.T.OfMember.is_known l.self.pools.now) (g.T.OfMember.inside l.self.pools.now) g.T.OfMember.encodes l.self.frame.now l.pairs.at l.pairs.limit l.i l.least) (sum_by (λ e. g.T.OfMember.weighs (g.T.OfMember.inside l.self.pools.now e.1))) l.fn.kept.budget l.kept.budget (map (λ e. (e.0, g.T.OfMember.of l.kept.cache.table (Some e.1))) l.members.items);
}
