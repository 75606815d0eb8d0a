use Rattle.dexpool.proofs.Common.{◌≡◌, map, drop, flat_map, All, kept, span_of, IsMarked, mark_all, entry_types}
use Rattle.dexpool.proofs.closing.mark_by_protos.Given as goal

abbrev pub invariant-loop-i : goal.invariant-loop-i
invariant-loop-i l = record {
  strings : mark_all l.strings (map (λ p. p.shorty) (kept (drop l.i l.marks) (drop l.i l.protos))) ≡ mark_all l.fn.strings (map (λ p. p.shorty) (kept l.marks l.protos));
  known : All (IsMarked l.types) (span_of l.parameters l.longest);
  types : mark_all l.types (flat_map (entry_types l.parameters) (kept (drop l.i l.marks) (drop l.i l.protos))) ≡ mark_all l.fn.types (flat_map (entry_types l.parameters) (kept l.marks l.protos));
}

-- the marks of a proto's parameters that are left give all of them
abbrev pub invariant-loop-k : goal.invariant-loop-k
invariant-loop-k l = mark_all l.types (drop l.k l.numbers) ≡ mark_all l.initial.types l.numbers
