use Rattle.std.proofs.Common.{refl, [], ◌∷◌}
use Rattle.dexruns.specs.Inputs.{bytes_read}
use Rattle.dexruns.specs.Repairs.{repaired, IsRepairedPrefix}
use Rattle.dexcmd.specs.Reports.{done}
use Rattle.dexcmd.specs.Ran.{IsRepairRun}
use Rattle.dexcmd.proofs.Done.{input_named, ended_named, has_run, failed_left, left_with_is}
use Rattle.dexcmd.proofs.jobs.repair.Goals as goal

pub report-requires-clause-named : goal.report-requires-clause-named
report-requires-clause-named g c =
    ended_named 1 _ (input_named (g.R.Source.reports c.args.input.now) (repaired (bytes_read (g.R.Source.to_come c.args.input.now)))) c.repair_run.result c.done-outcome.result c.done-outcome.ensures c.repair_run.ensures.fault

pub returns-clause-done : goal.returns-clause-done
returns-clause-done g c =
    has_run c.report.result done (λ _. IsRepairRun g.R.Source.reports g.R.Source.to_come g.R.Source.expected_len g.R.Source.has_failed g.W.Sink.reports g.W.Sink.taken g.W.Sink.has_failed c.args.input.now c.repair_run.new.input c.args.out.now c.repair_run.new.out)
    (c.args.file.now ∷ []) (c.args.file.now ∷ []) c.in_ok-draft.draft.target.now c.args.target.now c.is_closed.result (g.W.Output.is_closed c.repair_run.new.out) c.repair_run.result c.done-outcome.result
    c.done-outcome.ensures c.is_closed.ensures refl c.in_ok-draft.ensures.target
    (record { accepted = c.repair_run.ensures.accepted; repaired_file = c.repair_run.ensures.written; only_sums = c.repair_run.ensures.only_sums; fault = c.repair_run.ensures.fault; memory = c.repair_run.ensures.memory; unwritten = c.repair_run.ensures.left; no_further = c.repair_run.ensures.no_further; read = c.repair_run.ensures.read; write = c.repair_run.ensures.write }) c.report.ensures.report

pub returns-clause-failed : goal.returns-clause-failed
returns-clause-failed g c =
    failed_left c.args.out.now c.repair_run.new.out c.report.result _ (left_with_is c.args.out.now c.repair_run.new.out (IsRepairedPrefix (g.R.Source.reports c.args.input.now) (g.W.Sink.reports c.args.out.now) (g.W.Sink.taken c.args.out.now) (g.W.Sink.taken c.repair_run.new.out) (bytes_read (g.R.Source.to_come c.args.input.now)))) c.repair_run.result c.done-outcome.result c.done-outcome.ensures c.report.ensures.failed c.repair_run.ensures.left
