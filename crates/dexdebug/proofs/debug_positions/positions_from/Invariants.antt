use Rattle.dexdebug.proofs.Common.{◌≡◌, ◌+◌, ◌*◌, ◌^◌, ◌≤◌, ◌++◌, length, map, All, pos, ◌+ℤ◌, ◌≤ℤ◌, IsFormedOperation, unindexed_operation}
use Rattle.dexdebug.specs.Positions as recorded
use Rattle.dexdebug.proofs.debug_positions.positions_from.Given as goal

abbrev pub invariant-loop-operation : goal.invariant-loop-operation
invariant-loop-operation l = record {
  count : length l.yielded + length l.operation-iterator ≡ length l.fn.operations;
  formed : All IsFormedOperation l.operation-iterator;
  address : l.address ≤ 2 ^ 32 * length l.yielded;
  low : pos 0 ≤ℤ (l.line +ℤ pos (2 ^ 31 * length l.yielded));
  high : l.line ≤ℤ pos (2 ^ 32 + 2 ^ 31 * length l.yielded);
  rest : l.found.items ++ recorded.positions_from l.address l.line (map unindexed_operation l.operation-iterator) ≡ recorded.positions_from 0 (pos l.line_start) (map unindexed_operation l.fn.operations);
}
