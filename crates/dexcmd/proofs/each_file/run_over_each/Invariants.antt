use Rattle.std.proofs.Common.{◌≡◌, false, drop, take, map, length, string_bytes}
use Rattle.dexruns.specs.Runs.{AllWork}
use Rattle.dexcmd.specs.Reports.{HasKinds}
use Rattle.dexcmd.specs.EachFile.{goes_on, IsFileRun}
use Rattle.dexcmd.proofs.EachFile.{IsSoFar}
use Rattle.dexcmd.proofs.each_file.run_over_each.Given as goal

-- the readers to come and the output work, what is right of the files that are left is right of all, and the lines of the
-- report have their kinds
abbrev pub invariant-loop-i : goal.invariant-loop-i
invariant-loop-i g l = record {
  count : length l.inputs ≡ length l.files;
  readers : AllWork g.R.Source.has_failed (drop l.i l.inputs);
  works : g.W.Sink.has_failed l.out ≡ false;
  so_far : IsSoFar g.W.Output.is_closed (goes_on l.task) (IsFileRun g.R.Source.reports g.R.Source.to_come g.R.Source.expected_len g.R.Source.has_failed g.W.Sink.reports g.W.Sink.taken g.W.Sink.has_failed l.task) (map string_bytes l.files) l.fn.inputs l.fn.out (drop l.i (map string_bytes l.files)) (take l.i l.inputs) (drop l.i l.inputs) l.out
      l.report.status (map string_bytes l.report.lines.items) l.report.conditions;
  kinds : HasKinds l.report;
}
