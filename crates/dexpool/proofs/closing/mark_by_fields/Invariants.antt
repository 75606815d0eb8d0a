use Rattle.dexpool.proofs.Common.{◌≡◌, map, drop, flat_map, kept, mark_all, field_types}
use Rattle.dexpool.proofs.closing.mark_by_fields.Given as goal

abbrev pub invariant-loop-i : goal.invariant-loop-i
invariant-loop-i l = record {
  strings : mark_all l.strings (map (λ f. f.name) (kept (drop l.i l.marks) (drop l.i l.fields))) ≡ mark_all l.fn.strings (map (λ f. f.name) (kept l.marks l.fields));
  types : mark_all l.types (flat_map field_types (kept (drop l.i l.marks) (drop l.i l.fields))) ≡ mark_all l.fn.types (flat_map field_types (kept l.marks l.fields));
}
