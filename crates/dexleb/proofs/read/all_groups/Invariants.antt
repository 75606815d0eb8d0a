use Rattle.std.proofs.Common.{◌≡◌, ◌≤◌, take, All}
use Rattle.dexspec.specs.Numbers.{sum_of_groups}
use Rattle.dexleb.proofs.read.all_groups.Given as goal

abbrev pub invariant-loop-i : goal.invariant-loop-i
invariant-loop-i l = record { sum : sum_of_groups (take l.i l.bytes) ≡ l.sum; high : All (λ byte. 128 ≤ byte) (take l.i l.bytes) }
