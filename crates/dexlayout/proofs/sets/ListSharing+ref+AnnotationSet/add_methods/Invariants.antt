use Rattle.dexlayout.proofs.Common.{◌++◌, take, All, List, Option, AnnotationSet as SetMeant, Mentions, IsKnownMethod, SharesSets, methods_uses}
use Rattle.dexlayout.proofs.sets.ListSharing+ref+AnnotationSet.add_methods.Given as goal

abbrev pub invariant-loop-i : goal.invariant-loop-i
invariant-loop-i l = (m : Mentions) (uses : List (Option SetMeant)) → All (IsKnownMethod m) l.methods → SharesSets m uses l.fn.self.items.keys l.fn.self.numbers
    → SharesSets m (uses ++ methods_uses m (take l.i l.methods)) l.self.items.keys l.self.numbers
