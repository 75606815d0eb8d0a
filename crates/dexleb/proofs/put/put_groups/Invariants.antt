use Rattle.std.proofs.Common.{◌≡◌, ◌-◌, ◌*◌, ◌^◌, ◌<◌, ◌++◌, take, length}
use Rattle.dexspec.specs.Numbers.{groups}
use Rattle.dexleb.proofs.put.put_groups.Given as goal

abbrev pub invariant-loop-i : goal.invariant-loop-i
invariant-loop-i l = record { len : length l.bytes ≡ 5; written : take l.i l.bytes ++ groups (l.len - l.i) l.rest ≡ groups l.len l.value; fits : l.rest < 2 ^ (7 * (l.len - l.i)) }
