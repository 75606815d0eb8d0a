use Rattle.dexorder.specs.internal.Searching.{HasDepthBefore, parents_in, parents_left}
use Rattle.dexorder.proofs.depths.continued.Given as goal

abbrev pub invariant-loop-next : goal.invariant-loop-next
invariant-loop-next g l = HasDepthBefore (parents_in l.by_type (g.C.HasParents.superclass_of l.class) (g.C.HasParents.interfaces_of l.class)) l.depths l.visit l.next l.depth

abbrev pub decreases-loop-next : goal.decreases-loop-next
decreases-loop-next g l = parents_left (parents_in l.by_type (g.C.HasParents.superclass_of l.class) (g.C.HasParents.interfaces_of l.class)) l.next
