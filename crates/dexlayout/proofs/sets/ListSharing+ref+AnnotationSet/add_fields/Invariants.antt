use Rattle.dexlayout.proofs.Common.{◌++◌, take, All, List, Option, AnnotationSet as SetMeant, Mentions, IsKnownField, SharesSets, field_uses}
use Rattle.dexlayout.proofs.sets.ListSharing+ref+AnnotationSet.add_fields.Given as goal

abbrev pub invariant-loop-i : goal.invariant-loop-i
invariant-loop-i l = (m : Mentions) (uses : List (Option SetMeant)) → All (IsKnownField m) l.fields → SharesSets m uses l.fn.self.items.keys l.fn.self.numbers
    → SharesSets m (uses ++ field_uses m (take l.i l.fields)) l.self.items.keys l.self.numbers
