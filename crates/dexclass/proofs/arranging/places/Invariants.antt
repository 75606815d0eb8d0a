use Rattle.dexclass.proofs.Common.{◌≡◌, range_with_len}
use Rattle.dexclass.proofs.arranging.places.Given as goal

abbrev pub invariant-loop-place : goal.invariant-loop-place
invariant-loop-place l = l.places.items ≡ range_with_len 0 l.place
