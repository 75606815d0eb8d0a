use Rattle.dexlayout.proofs.Common.{take, All, flat_map, Mentions, IsKnownClass, SharesSets, members_uses}
use Rattle.dexlayout.proofs.sets.share_sets.Given as goal

abbrev pub invariant-loop-i : goal.invariant-loop-i
invariant-loop-i l = (m : Mentions) → All (IsKnownClass m) l.classes → SharesSets m (flat_map (λ c. members_uses m c.members) (take l.i l.classes)) l.sharing.items.keys l.sharing.numbers
