use Rattle.dexorder.proofs.Common.{◌≡◌, ◌<◌, ℕ, [], true, false, slice_index_or}
use Rattle.dexorder.specs.internal.Searching.{AreListDepths, IsSearch, parents_of_all, work}
use Rattle.dexorder.proofs.depths.depths_with_firsts.Given as goal

abbrev pub invariant-loop-class : goal.invariant-loop-class
invariant-loop-class g l = record {
  search : IsSearch (parents_of_all l.by_type.items g.C.HasParents.superclass_of g.C.HasParents.interfaces_of l.classes) l.search [];
  lists : AreListDepths (parents_of_all l.by_type.items g.C.HasParents.superclass_of g.C.HasParents.interfaces_of l.classes) l.lists;
  path : l.search.path.items ≡ [];
  seen : (k : ℕ) → k < l.class → slice_index_or l.search.is_seen.items k false ≡ true;
}

abbrev pub invariant-loop-visit : goal.invariant-loop-visit
invariant-loop-visit g l = record {
  search : IsSearch (parents_of_all l.by_type.items g.C.HasParents.superclass_of g.C.HasParents.interfaces_of l.classes) l.search l.search.path.items;
  lists : AreListDepths (parents_of_all l.by_type.items g.C.HasParents.superclass_of g.C.HasParents.interfaces_of l.classes) l.lists;
  seen : (k : ℕ) → k < l.class → slice_index_or l.search.is_seen.items k false ≡ true;
  begun : slice_index_or l.search.is_seen.items l.class false ≡ true;
}

abbrev pub decreases-loop-visit : goal.decreases-loop-visit
decreases-loop-visit g l = work (parents_of_all l.by_type.items g.C.HasParents.superclass_of g.C.HasParents.interfaces_of l.classes) l.search l.search.path.items
