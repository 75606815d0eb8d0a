use Rattle.std.proofs.Common.{◌≡◌, ◌+◌, ◌*◌, ◌^◌, ◌≤◌, length, map, pos, ◌+ℤ◌, ◌≤ℤ◌}
use Rattle.std.specs.Prelude.{All}
use Rattle.dexio.proofs.Encoded.{Completes}
use Rattle.dexdebug.specs.Meaning.{operation_in, IsKnownOperation}
use Rattle.dexlisting.specs.FullListing.{operation_lines}
use Rattle.dexlisting.proofs.debug.encode_operations.Given as goal

abbrev pub invariant-loop-operation : goal.invariant-loop-operation
invariant-loop-operation g l = record {
  count : length l.yielded + length l.operation-iterator ≡ length l.fn.operations;
  known : All (IsKnownOperation l.numbering) l.operation-iterator;
  address : l.address ≤ 2 ^ 32 * length l.yielded;
  low : pos 0 ≤ℤ (l.line +ℤ pos (2 ^ 31 * length l.yielded));
  high : l.line ≤ℤ pos (2 ^ 32 + 2 ^ 31 * length l.yielded);
  completes : Completes g.O.Output.gives (operation_lines l.address l.line (map (operation_in l.numbering) l.operation-iterator)) l.out
      (operation_lines 0 (pos l.line_start) (map (operation_in l.numbering) l.fn.operations)) l.initial.out;
}
