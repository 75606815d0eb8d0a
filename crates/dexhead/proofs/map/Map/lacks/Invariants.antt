use Rattle.dexhead.proofs.Common.{◌≢◌, take, All, entries}
use Rattle.dexhead.proofs.map.Map.lacks.Given as goal

-- none so far is of the kind
abbrev pub invariant-loop-i : goal.invariant-loop-i
invariant-loop-i l = All (λ e. e.kind ≢ l.kind) (take l.i (entries l.self))
