use Rattle.std.proofs.Common.{refl, [], ◌∷◌}
use Rattle.dexruns.specs.Inputs.{bytes_read}
use Rattle.dexruns.specs.Listings.{IsListingPrefix}
use Rattle.dexcmd.specs.Reports.{done, standard_name}
use Rattle.dexcmd.specs.Ran.{IsDumpRun}
use Rattle.dexcmd.proofs.Done.{input_named, ended_named, has_run, failed_left, left_with_is}
use Rattle.dexcmd.proofs.jobs.dump.Goals as goal

pub report-requires-clause-named : goal.report-requires-clause-named
report-requires-clause-named g c =
    ended_named 1 _ (input_named (g.R.Source.reports c.args.input.now) (bytes_read (g.R.Source.to_come c.args.input.now))) c.dump_run.result c.done-outcome.result c.done-outcome.ensures c.dump_run.ensures.fault

pub returns-clause-done : goal.returns-clause-done
returns-clause-done g c =
    has_run c.report.result done (λ _. IsDumpRun g.R.Source.reports g.R.Source.to_come g.R.Source.expected_len g.R.Source.has_failed g.W.Sink.reports g.W.Sink.taken g.W.Sink.has_failed c.args.detail c.args.input.now c.dump_run.new.input c.args.out.now c.dump_run.new.out)
    (c.args.file.now ∷ []) (c.args.file.now ∷ []) c.in_ok-draft.draft.target.now standard_name c.is_closed.result (g.W.Output.is_closed c.dump_run.new.out) c.dump_run.result c.done-outcome.result
    c.done-outcome.ensures c.is_closed.ensures refl c.in_ok-draft.ensures.target
    (record { accepted = c.dump_run.ensures.accepted; lines = c.dump_run.ensures.written; fault = c.dump_run.ensures.fault; memory = c.dump_run.ensures.memory; unwritten = c.dump_run.ensures.left; no_further = c.dump_run.ensures.no_further; read = c.dump_run.ensures.read; write = c.dump_run.ensures.write }) c.report.ensures.report

pub returns-clause-failed : goal.returns-clause-failed
returns-clause-failed g c =
    failed_left c.args.out.now c.dump_run.new.out c.report.result _ (left_with_is c.args.out.now c.dump_run.new.out (IsListingPrefix c.args.detail (g.R.Source.reports c.args.input.now) (g.W.Sink.reports c.args.out.now) (g.W.Sink.taken c.args.out.now) (g.W.Sink.taken c.dump_run.new.out) (bytes_read (g.R.Source.to_come c.args.input.now)))) c.dump_run.result c.done-outcome.result c.done-outcome.ensures c.report.ensures.failed c.dump_run.ensures.left
