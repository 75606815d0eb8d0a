use Rattle.dexids.proofs.Common.{◌≡◌, drop, key_cmp, file_numbers}
use Rattle.dexids.proofs.lists.compare_numbers.Given as goal

abbrev pub invariant-loop-i : goal.invariant-loop-i
invariant-loop-i l = key_cmp (drop l.i (file_numbers l.left)) (drop l.i (file_numbers l.right)) ≡ key_cmp (file_numbers l.left) (file_numbers l.right)
