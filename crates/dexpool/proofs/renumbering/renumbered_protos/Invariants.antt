use Rattle.dexpool.proofs.Common.{◌≡◌, length, map, take, drop, All, HasSpan, numbers_of, moved_proto}
use Rattle.dexpool.proofs.renumbering.renumbered_protos.Given as goal

abbrev pub invariant-loop-i : goal.invariant-loop-i
invariant-loop-i l = record {
  so_far : map (numbers_of l.moved.items) (take l.i l.rows.items) ≡ map (moved_proto l.lower.strings.now l.lower.types.now l.parameters) (take l.i l.fn.rows.items);
  spans : All (λ entry. HasSpan l.moved.items entry.parameters) (take l.i l.rows.items);
  rest : drop l.i l.rows.items ≡ drop l.i l.fn.rows.items;
  size : length l.rows.items ≡ length l.fn.rows.items;
}
