use Rattle.dexstr.proofs.Common.{◌≡◌, drop, slice_cmp, text_cmp, byte_cmp}
use Rattle.dexstr.proofs.texts.TextOrd.cmp.Given as goal

abbrev pub invariant-loop-i : goal.invariant-loop-i
invariant-loop-i l = slice_cmp byte_cmp (drop l.i l.left) (drop l.i l.right) ≡ text_cmp l.fn.self l.fn.other
