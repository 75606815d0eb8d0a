use Rattle.dexmembers.proofs.Common.{drop}
use Rattle.dexmembers.specs.{numbered_methods_bytes}
use Rattle.dexmembers.proofs.Partways.{Partway}
use Rattle.dexmembers.proofs.class_data_put.encode_methods.Given as goal

abbrev pub invariant-loop-i : goal.invariant-loop-i
invariant-loop-i g l = Partway g.O.Output.gives (numbered_methods_bytes l.last (drop l.i l.methods) (drop l.i l.code_offs)) (numbered_methods_bytes 0 l.methods l.code_offs) l.initial.out l.out
