use Rattle.dexout.specs.Printed.{shown}
use Rattle.dexout.proofs.texts.encode_text.Given as goal

-- the units so far are written
abbrev pub invariant-loop-unit : goal.invariant-loop-unit
invariant-loop-unit g l = record { written : g.O.Output.gives (shown l.yielded) l.initial.out l.out }
