use Rattle.dexcode.proofs.Common.{◌≡◌, ℕ, ◌<◌, ◌≤◌, length, map, take, get_or, no_handler, remapped_try, renumbered_handler}
use Rattle.dexcode.proofs.tries_same.RemappedTries.eq_tries.Given as goal

abbrev pub invariant-loop-i : goal.invariant-loop-i
invariant-loop-i l = record {
  count : length l.self.tries.now ≡ length l.others.tries.now;
  same : map (remapped_try l.self.remap.now l.self.handlers.now) (take l.i l.self.tries.now) ≡ map (remapped_try l.others.remap.now l.others.handlers.now) (take l.i l.others.tries.now);
  known : (k : ℕ) → k < l.compared → renumbered_handler l.self.remap.now (get_or l.self.handlers.now k no_handler) ≡ renumbered_handler l.others.remap.now (get_or l.others.handlers.now k no_handler);
  within : l.compared ≤ length l.self.handlers.now;
}
