use Rattle.dexruns.specs.Runs.{AllWork}
use Rattle.dexunit.proofs.runs.merged.Given as goal

-- no reader has failed so far
abbrev pub invariant-loop-file : goal.invariant-loop-file
invariant-loop-file l = record {
  works : AllWork (λ input. input.is_broken) l.inputs.items;
}
