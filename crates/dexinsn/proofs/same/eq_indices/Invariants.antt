use Rattle.dexinsn.proofs.Common.{ℕ, ◌<◌, get_or, AreEqualMapped}
use Rattle.dexinsn.proofs.same.eq_indices.Given as goal

abbrev pub invariant-loop-i : goal.invariant-loop-i
invariant-loop-i l = (k : ℕ) → k < l.i → AreEqualMapped l.mine l.theirs l.units (get_or l.indices k (record { unit = 0; number = 0 })) (get_or l.others k (record { unit = 0; number = 0 }))
