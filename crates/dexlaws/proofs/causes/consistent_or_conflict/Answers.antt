use Rattle.dexspec.proofs.Common.{inl, inr}
use Rattle.dexspec.proofs.merge.Conflicts.{consistent-apart}
use Rattle.dexspec.proofs.merge.FirstCauses.{conflict_or_consistent}
use Rattle.dexlaws.proofs.causes.consistent_or_conflict.Goals as goal

pub returns-clause-decided : goal.returns-clause-decided
returns-clause-decided c = λ D. elim (conflict_or_consistent D) [
  | inl l ↦ inr (record { name = l.0; holds = l.1.is; least = l.1.none_less })
  | inr consistent ↦ inl consistent
]

pub returns-clause-apart : goal.returns-clause-apart
returns-clause-apart c = consistent-apart
