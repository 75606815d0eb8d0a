use Rattle.dexpool.proofs.Common.{ℕ, List, take, All, HasSpan, Covers}
use Rattle.dexpool.proofs.renumbering.covering.Given as goal

abbrev pub invariant-loop-entry : goal.invariant-loop-entry
invariant-loop-entry l = record { covers : All (λ p. Covers l.range p.parameters) (take l.entry-index l.protos); within : (ps : List ℕ) → All (λ p. HasSpan ps p.parameters) l.protos → HasSpan ps l.range }
