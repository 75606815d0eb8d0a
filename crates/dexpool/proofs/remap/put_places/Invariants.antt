use Rattle.dexpool.proofs.Common.{◌≡◌, ◌≤◌, ◌+◌, ◌-◌, ◌++◌, map, drop, length, places, image_in}
use Rattle.std.specs.Prelude.{vec_len, vec_capacity}
use Rattle.dexpool.proofs.remap.put_places.Given as goal

abbrev pub invariant-loop-is_marked : goal.invariant-loop-is_marked
invariant-loop-is_marked l = record {
  images : map image_in l.stored.items ++ places l.count (drop l.is_marked-index l.marks) ≡ places 0 l.marks;
  few : l.count ≤ l.is_marked-index;
  room : vec_len l.stored + length l.marks ≤ vec_capacity l.stored + l.is_marked-index;
}
