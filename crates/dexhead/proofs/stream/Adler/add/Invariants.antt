use Rattle.dexhead.proofs.Common.{◌≡◌, ◌≤◌, ◌+◌, ◌*◌, ◌%◌, take, adler_sums}
use Rattle.dexhead.proofs.stream.Adler.add.Given as goal

-- the sums so far, not reduced, with bounds
abbrev pub invariant-loop-byte : goal.invariant-loop-byte
invariant-loop-byte l = record {
  first_bound : l.first ≤ 65520 + 255 * l.byte-index;
  second_bound : l.second ≤ 65520 + 1060020 * l.byte-index;
  sums : (l.first % 65521, l.second % 65521) ≡ adler_sums l.fn.self (take l.byte-index l.part);
}
