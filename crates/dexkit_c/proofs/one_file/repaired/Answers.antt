use Rattle.std.proofs.Common.{refl, ap}
use Rattle.dexruns.specs.Inputs.{bytes_read}
use Rattle.dexruns.specs.Repairs.{repaired}
use Rattle.dexkit_c.proofs.InMemory.{of_file}
use Rattle.dexkit_c.proofs.one_file.repaired.Goals as goal

pub returns-in-Ok-clause-repaired : goal.returns-in-Ok-clause-repaired
returns-in-Ok-clause-repaired c = rw (c.into_inner.ensures, c.in-Ok.ensures.written refl refl, c.new-written.ensures.inner, c.new.ensures.items, c.expecting-input.ensures.inner) refl

pub returns-in-Err-clause-fault : goal.returns-in-Err-clause-fault
returns-in-Err-clause-fault c = of_file _ refl _ _ c.in-Err.why (ap (λ file. repaired (bytes_read file.now)) c.expecting-input.ensures.inner) c.in-Err.ensures.fault
