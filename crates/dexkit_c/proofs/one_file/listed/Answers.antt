use Rattle.std.proofs.Common.{refl, ap, subst, sym}
use Rattle.dexspec.specs.Accepted.{IsAccepted}
use Rattle.dexspec.specs.Files.{Denotes}
use Rattle.dexruns.specs.Inputs.{bytes_read}
use Rattle.dexkit_c.proofs.InMemory.{of_file}
use Rattle.dexkit_c.proofs.one_file.listed.Goals as goal

pub returns-in-Ok-clause-listing : goal.returns-in-Ok-clause-listing
returns-in-Ok-clause-listing c = λ K denotes.
    rw (c.into_inner.ensures, c.in-Ok.ensures.written refl refl K (subst (λ file. Denotes (bytes_read file.now) K) (sym c.expecting-input.ensures.inner) denotes), c.new-written.ensures.inner, c.new.ensures.items) refl

pub returns-in-Ok-clause-accepted : goal.returns-in-Ok-clause-accepted
returns-in-Ok-clause-accepted c = subst (λ file. IsAccepted (bytes_read file.now)) c.expecting-input.ensures.inner (c.in-Ok.ensures.accepted refl)

pub returns-in-Err-clause-fault : goal.returns-in-Err-clause-fault
returns-in-Err-clause-fault c = of_file _ refl _ _ c.in-Err.why (ap (λ file. bytes_read file.now) c.expecting-input.ensures.inner) c.in-Err.ensures.fault
