use Rattle.dexpool.proofs.Common.{◌≡◌, map, drop, kept, mark_all}
use Rattle.dexpool.proofs.closing.mark_by_methods.Given as goal

abbrev pub invariant-loop-i : goal.invariant-loop-i
invariant-loop-i l = record {
  strings : mark_all l.strings (map (λ m. m.name) (kept (drop l.i l.marks) (drop l.i l.methods))) ≡ mark_all l.fn.strings (map (λ m. m.name) (kept l.marks l.methods));
  types : mark_all l.types (map (λ m. m.class) (kept (drop l.i l.marks) (drop l.i l.methods))) ≡ mark_all l.fn.types (map (λ m. m.class) (kept l.marks l.methods));
  protos : mark_all l.protos (map (λ m. m.proto) (kept (drop l.i l.marks) (drop l.i l.methods))) ≡ mark_all l.fn.protos (map (λ m. m.proto) (kept l.marks l.methods));
}
