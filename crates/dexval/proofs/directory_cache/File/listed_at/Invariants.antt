use Rattle.dexval.proofs.Common.{◌≡◌, ◌+◌, Some, All, map, sum_by, Contains, HasPools, set_weight_in, AreCached, IsNoted, IsPlaceIn, set_at, HasCounted}
use Rattle.dexval.proofs.DirectoryRead.{HaveReadList}
use Rattle.dexval.proofs.directory_cache.File.listed_at.Given as goal

abbrev pub invariant-loop-i : goal.invariant-loop-i
invariant-loop-i l = record {
  lists : l.kept.cache.lists ≡ l.fn.kept.cache.lists;
  noted : IsNoted (λ i. Contains l.places.items (Some i)) (λ i. ⊥) (All (IsPlaceIn l.kept.cache.table.sets) l.places.items) l.fn.kept.cache l.kept.cache;
  cache : HasPools l.self.frame.now l.self.pools.now → AreCached l.self.frame.now l.self.pools.now l.kept.cache;
  read : HasPools l.self.frame.now l.self.pools.now → HasCounted (HaveReadList l.self.frame.now (l.off + 4) l.self.pools.now l.i) (λ ss. l.list + sum_by (set_weight_in l.self.pools.now) ss) l.fn.kept.budget l.kept.budget (map (set_at l.kept.cache.table.sets) l.places.items);
}
