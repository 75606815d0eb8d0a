use Rattle.dexspec.proofs.Common.{inl, inr}
use Rattle.dexspec.proofs.merge.FirstCauses.{cycle_or_acyclic}
use Rattle.dexlaws.proofs.causes.acyclic_or_cycle.Goals as goal

pub returns-clause-decided : goal.returns-clause-decided
returns-clause-decided c = λ D. elim (cycle_or_acyclic D) [
  | inl l ↦ inr (record { name = l.0; holds = l.1.is; least = l.1.none_less })
  | inr acyclic ↦ inl acyclic
]
