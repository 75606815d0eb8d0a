use Rattle.dexspec.proofs.Common.{inl, inr}
use Rattle.dexspec.proofs.merge.Absorption.{IsGood-apart}
use Rattle.dexspec.proofs.merge.FirstCauses.{cause_or_not, first_cause_or_good, first_cause-one, first_cause-same}
use Rattle.dexlaws.proofs.causes.good_or_first_cause.Goals as goal

pub returns : goal.returns
returns c = record {
  decided = λ caps D. elim (first_cause_or_good caps D) [
    | inl l ↦ inr (record { cause = l.0; first = l.1 })
    | inr good ↦ inl good
  ];
  apart = IsGood-apart;
  each = cause_or_not;
  one = first_cause-one;
  alone = first_cause-same;
}
