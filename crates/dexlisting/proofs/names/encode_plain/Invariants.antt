use Rattle.dexlisting.specs.FullListing.{plain}
use Rattle.dexlisting.proofs.names.encode_plain.Given as goal

-- the units so far are written
abbrev pub invariant-loop-unit : goal.invariant-loop-unit
invariant-loop-unit g l = record { written : g.O.Output.gives (plain l.yielded) l.initial.out l.out }
