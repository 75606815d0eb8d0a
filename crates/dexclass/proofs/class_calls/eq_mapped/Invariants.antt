use Rattle.dexclass.proofs.Common.{◌≡◌, ℕ, ◌<◌, get_or}
use Rattle.dexclass.specs.{image_or_same}
use Rattle.dexclass.proofs.class_calls.eq_mapped.Given as goal

abbrev pub invariant-loop-k : goal.invariant-loop-k
invariant-loop-k l = (k : ℕ) → k < l.k → image_or_same l.mine.types (get_or l.numbers k 0) ≡ image_or_same l.theirs.types (get_or l.others k 0)
