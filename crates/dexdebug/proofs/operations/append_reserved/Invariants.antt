use Rattle.dexdebug.proofs.Common.{◌≡◌, ◌+◌, ◌≤◌, ◌++◌, length, take}
use Rattle.std.specs.Prelude.{vec_len, vec_capacity}
use Rattle.dexdebug.proofs.operations.append_reserved.Given as goal

abbrev pub invariant-loop-index : goal.invariant-loop-index
invariant-loop-index l = record {
  kept : l.indices.items ≡ l.initial.indices.items ++ take l.index-index l.more;
  room : vec_len l.indices + length l.more ≤ vec_capacity l.indices + l.index-index;
  capacity : vec_capacity l.indices ≡ vec_capacity l.initial.indices;
}
