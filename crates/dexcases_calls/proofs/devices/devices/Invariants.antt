use Rattle.dexruns.specs.Runs.{AllWork}
use Rattle.dexcases_calls.proofs.devices.devices.Given as goal

-- no device has failed so far
abbrev pub invariant-loop-file : goal.invariant-loop-file
invariant-loop-file l = record {
  works : AllWork (λ device. device.is_broken) l.devices.items;
}
