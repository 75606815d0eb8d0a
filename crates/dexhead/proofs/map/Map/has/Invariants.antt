use Rattle.dexhead.proofs.Common.{◌≢◌, take, All, read, entries}
use Rattle.dexhead.proofs.map.Map.has.Given as goal

-- none so far is the entry
abbrev pub invariant-loop-i : goal.invariant-loop-i
invariant-loop-i l = All (λ e. e ≢ read l.entry) (take l.i (entries l.self))
