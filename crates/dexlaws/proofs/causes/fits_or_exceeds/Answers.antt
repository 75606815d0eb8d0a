use Rattle.dexspec.proofs.Common.{inl, inr}
use Rattle.dexspec.proofs.merge.Absorption.{Fits-apart}
use Rattle.dexspec.proofs.merge.FirstCauses.{exceeds_or_fits, cap_less}
use Rattle.dexlaws.proofs.causes.fits_or_exceeds.Goals as goal

pub returns-clause-decided : goal.returns-clause-decided
returns-clause-decided c = λ caps D. elim (exceeds_or_fits caps D) [
  | inl l ↦ inr (record { cap = l.0; exceeds = l.1.is; first = λ other x lt. l.1.none_less other x (cap_less other l.0 lt) })
  | inr fits ↦ inl fits
]

pub returns-clause-apart : goal.returns-clause-apart
returns-clause-apart c = Fits-apart
