use Rattle.dexlayout.proofs.Common.{◌++◌, map, take, All, List, Option, AnnotationSet as SetMeant, Mentions, IsKnownSet, SharesSets, set_use}
use Rattle.dexlayout.proofs.sets.ListSharing+ref+AnnotationSet.add_sets.Given as goal

abbrev pub invariant-loop-i : goal.invariant-loop-i
invariant-loop-i l = (m : Mentions) (uses : List (Option SetMeant)) → All (IsKnownSet m) l.sets → SharesSets m uses l.fn.self.items.keys l.fn.self.numbers
    → SharesSets m (uses ++ map (set_use m) (take l.i l.sets)) l.self.items.keys l.self.numbers
