use Rattle.std.proofs.Common.{take}
use Rattle.std.specs.List.{flat_map}
use Rattle.dexcode.specs.Numbered.{named, try_meant}
use Rattle.dexlisting.specs.FullListing.{try_lines}
use Rattle.dexlisting.proofs.tries.encode_tries.Given as goal

abbrev pub invariant-loop-k : goal.invariant-loop-k
invariant-loop-k g l = g.O.Output.gives (flat_map (λ t. try_lines (try_meant l.numbering (named l.handlers t))) (take l.k l.all)) l.initial.out l.out
