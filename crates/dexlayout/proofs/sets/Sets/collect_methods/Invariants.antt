use Rattle.dexlayout.proofs.Common.{◌≡◌, ◌≤◌, length, drop, flat_map, methods_of, sets_of_method, parts_of_methods, collect_methods}
use Rattle.dexlayout.proofs.sets.Sets.collect_methods.Given as goal

-- placing what is left gives the whole
abbrev pub invariant-loop-i : goal.invariant-loop-i
invariant-loop-i l = record {
  collected : collect_methods l.self (parts_of_methods (drop l.i (methods_of l.members)) l.offs) ≡ collect_methods l.fn.self (parts_of_methods (methods_of l.members) l.fn.offs);
  left : drop (length (flat_map sets_of_method (drop l.i (methods_of l.members)))) l.offs ≡ drop (length (flat_map sets_of_method (methods_of l.members))) l.fn.offs;
  enough : length (flat_map sets_of_method (drop l.i (methods_of l.members))) ≤ length l.offs;
}
