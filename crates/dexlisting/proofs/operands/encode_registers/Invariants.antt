use Rattle.std.proofs.Common.{take, ◌++◌}
use Rattle.std.specs.Prelude.{codes}
use Rattle.std.specs.List.{flat_map}
use Rattle.dexlisting.specs.FullListing.{register_text}
use Rattle.dexlisting.proofs.operands.encode_registers.Given as goal

abbrev pub invariant-loop-register : goal.invariant-loop-register
invariant-loop-register g l = g.O.Output.gives (flat_map (λ n. codes ", " ++ register_text n) (take l.register-index l.others)) l.initial.out l.out
