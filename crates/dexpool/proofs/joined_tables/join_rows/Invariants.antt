use Rattle.dexpool.proofs.Common.{◌≡◌, map, take}
use Rattle.dexpool.proofs.joined_tables.join_rows.Given as goal

abbrev pub invariant-loop-part : goal.invariant-loop-part
invariant-loop-part g l = map (λ slice. slice.now) l.slices.items ≡ map (λ part. part.items) (take l.part-index l.parts)
