use Rattle.dexpool.proofs.Common.{◌≡◌, map, take, All, HasSpan, numbers_of}
use Rattle.dexpool.proofs.renumbering.placed.Given as goal

abbrev pub invariant-loop-i : goal.invariant-loop-i
invariant-loop-i l = record {
  rows : map (numbers_of l.parameters.items) l.rows.items ≡ take l.i l.protos;
  spans : All (λ entry. HasSpan l.parameters.items entry.parameters) l.rows.items;
}
