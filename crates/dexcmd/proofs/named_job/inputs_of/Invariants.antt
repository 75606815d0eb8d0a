use Rattle.std.proofs.Common.{◌≡◌, false, map, take, string_bytes, vec_len}
use Rattle.std.specs.Prelude.{All}
use Rattle.std.specs.List.{AllZip}
use Rattle.dexcmd.proofs.named_job.inputs_of.Given as goal

-- a device for each name so far, none of which has failed
abbrev pub invariant-loop-name : goal.invariant-loop-name
invariant-loop-name g l = record {
  named : AllZip (g.D.Inputs.is_input l.devices) (map string_bytes (take l.name-index l.names)) l.inputs.items;
  count : vec_len l.inputs ≡ l.name-index;
  works : All (λ input. g.D.Input.Source.has_failed input ≡ false) l.inputs.items;
}
