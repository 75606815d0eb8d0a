use Rattle.dexhead.proofs.Common.{take, AreInOrder, entries}
use Rattle.dexhead.proofs.map.Map.is_in_order.Given as goal

-- the entries so far are in order
abbrev pub invariant-loop-i : goal.invariant-loop-i
invariant-loop-i l = AreInOrder l.self.bytes.now (take l.i (entries l.self))
