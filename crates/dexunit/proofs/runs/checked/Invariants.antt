use Rattle.std.proofs.Common.{◌≡◌, vec_len}
use Rattle.dexruns.specs.Runs.{AllWork}
use Rattle.dexunit.proofs.runs.checked.Given as goal

-- each file so far has a name and a reader, and no reader has failed
abbrev pub invariant-loop-name : goal.invariant-loop-name
invariant-loop-name l = record {
  names : vec_len l.names ≡ l.name-index;
  inputs : vec_len l.inputs ≡ l.name-index;
  works : AllWork (λ input. input.is_broken) l.inputs.items;
}
