use Rattle.std.proofs.Common.{◌≡◌, ◌++◌, drop, take}
use Rattle.dexlayout.proofs.use_numbers.UseOffsets.append_to.Given as goal

abbrev pub invariant-loop : goal.invariant-loop
invariant-loop l = record {
  appended : l.to.items ≡ l.fn.to.items ++ take l.counter l.fn.self;
  others : l.self ≡ drop l.counter l.fn.self;
}
