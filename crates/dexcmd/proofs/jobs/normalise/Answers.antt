use Rattle.std.proofs.Common.{refl, [], ◌∷◌}
use Rattle.dexruns.specs.Inputs.{bytes_read}
use Rattle.dexcmd.specs.Reports.{done}
use Rattle.dexcmd.specs.Ran.{IsNormaliseRun}
use Rattle.dexcmd.proofs.Done.{input_named, ended_named, has_run, failed_left, has_left_is}
use Rattle.dexcmd.proofs.jobs.normalise.Goals as goal

pub report-requires-clause-named : goal.report-requires-clause-named
report-requires-clause-named g c =
    ended_named 1 _ (input_named (g.R.Source.reports c.args.input.now) (bytes_read (g.R.Source.to_come c.args.input.now))) c.normalise_run.result c.done-outcome.result c.done-outcome.ensures c.normalise_run.ensures.fault

pub returns-clause-done : goal.returns-clause-done
returns-clause-done g c =
    has_run c.report.result done (λ _. IsNormaliseRun g.R.Source.reports g.R.Source.to_come g.R.Source.expected_len g.R.Source.has_failed g.W.Sink.reports g.W.Sink.taken g.W.Sink.has_failed c.args.input.now c.normalise_run.new.input c.args.out.now c.normalise_run.new.out)
    (c.args.file.now ∷ []) (c.args.file.now ∷ []) c.in_ok-draft.draft.target.now c.args.target.now c.is_closed.result (g.W.Output.is_closed c.normalise_run.new.out) c.normalise_run.result c.done-outcome.result
    c.done-outcome.ensures c.is_closed.ensures refl c.in_ok-draft.ensures.target
    (record { accepted = c.normalise_run.ensures.accepted; canonical_file = c.normalise_run.ensures.written; fault = c.normalise_run.ensures.fault; memory = c.normalise_run.ensures.memory; unwritten = c.normalise_run.ensures.left; no_further = c.normalise_run.ensures.no_further; read = c.normalise_run.ensures.read; write = c.normalise_run.ensures.write }) c.report.ensures.report

pub returns-clause-failed : goal.returns-clause-failed
returns-clause-failed g c =
    failed_left c.args.out.now c.normalise_run.new.out c.report.result _ (has_left_is c.args.out.now c.normalise_run.new.out (g.R.Source.reports c.args.input.now) (g.W.Sink.reports c.args.out.now) g.W.Sink.taken (bytes_read (g.R.Source.to_come c.args.input.now))) c.normalise_run.result c.done-outcome.result c.done-outcome.ensures c.report.ensures.failed c.normalise_run.ensures.left
