use Rattle.dexruns.specs.Runs.{AllWork}
use Rattle.dextrials.proofs.checks.devices.Given as goal

-- no device has failed so far
abbrev pub invariant-loop-number : goal.invariant-loop-number
invariant-loop-number l = record {
  works : AllWork (λ device. device.is_broken) l.devices.items;
}
