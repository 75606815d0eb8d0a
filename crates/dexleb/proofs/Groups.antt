-- Writes one group after the other.
use Rattle.std.proofs.Common.{◌≡◌, ℕ, suc, ◌+◌, ◌-◌, ◌*◌, ◌/◌, ◌%◌, ◌^◌, ◌<◌, List, ◌++◌, length, take, set, arith, add-one, append_assoc}
use Rattle.std.proofs.Math.Seq.{take-suc-set}
use Rattle.dexspec.specs.Numbers.{groups}
use Rattle.dexspec.proofs.numbers.Groups.{group_less}

-- after one more byte, one fewer group is left
pub one_more : (bytes target : List ℕ) (i n rest : ℕ) → i < length bytes → suc i < n → take i bytes ++ groups (n - i) rest ≡ target
    → take (i + 1) (set bytes i (128 + rest % 128)) ++ groups (n - (i + 1)) (rest / 128) ≡ target
one_more bytes target i n rest within more so_far =
    let now : n - i ≡ suc (suc (n - suc (suc i))) = omega arith in
    let then : n - (i + 1) ≡ suc (n - suc (suc i)) = omega arith in
    let e = rw now at so_far in
    rw (then, add-one, take-suc-set, append_assoc) e

-- what is left fits the groups that are left
pub fits_one_more : (rest n i : ℕ) → suc i < n → rest < 2 ^ (7 * (n - i)) → rest / 128 < 2 ^ (7 * (n - (i + 1)))
fits_one_more rest n i more lt =
    let now : n - i ≡ suc (n - (i + 1)) = omega arith in
    let e = rw now at lt in
    group_less (n - (i + 1)) rest e
