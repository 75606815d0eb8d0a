use Rattle.std.proofs.Common.{◌≡◌, ◌++◌, false, map, take}
use Rattle.std.specs.Prelude.{string_bytes}
use Rattle.dexcmd.specs.Printing.{lines_text}
use Rattle.dexcmd.proofs.printing.write_lines.Given as goal

-- the first lines are written
abbrev pub invariant-loop-line : goal.invariant-loop-line
invariant-loop-line g l = record {
  works : g.W.Sink.has_failed l.out ≡ false;
  reports : g.W.Sink.reports l.fn.out → g.W.Sink.reports l.out;
  written : g.W.Sink.reports l.fn.out → g.W.Sink.taken l.out ≡ g.W.Sink.taken l.fn.out ++ lines_text (map string_bytes (take l.line-index l.lines));
}
