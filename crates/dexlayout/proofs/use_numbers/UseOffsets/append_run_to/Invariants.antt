use Rattle.std.proofs.Common.{◌≡◌, ◌++◌, drop, take}
use Rattle.dexlayout.proofs.use_numbers.UseOffsets.append_run_to.Given as goal

abbrev pub invariant-loop : goal.invariant-loop
invariant-loop l = record {
  appended : l.to ≡ l.fn.to ++ take l.counter l.fn.self;
  others : l.self ≡ drop l.counter l.fn.self;
}
