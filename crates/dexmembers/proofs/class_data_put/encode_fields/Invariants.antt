use Rattle.dexmembers.proofs.Common.{drop}
use Rattle.dexmembers.specs.{numbered_fields_bytes}
use Rattle.dexmembers.proofs.Partways.{Partway}
use Rattle.dexmembers.proofs.class_data_put.encode_fields.Given as goal

abbrev pub invariant-loop-i : goal.invariant-loop-i
invariant-loop-i g l = Partway g.O.Output.gives (numbered_fields_bytes l.last (drop l.i l.fields)) (numbered_fields_bytes 0 l.fields) l.initial.out l.out
