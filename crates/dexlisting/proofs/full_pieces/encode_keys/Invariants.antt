use Rattle.dexspec.specs.Pieces.{ints_in}
use Rattle.dexlisting.specs.FullListing.{keys_text}
use Rattle.dexlisting.proofs.full_pieces.encode_keys.Given as goal

abbrev pub invariant-loop-i : goal.invariant-loop-i
invariant-loop-i g l = g.O.Output.gives (keys_text (ints_in l.units l.place l.i)) l.initial.out l.out
