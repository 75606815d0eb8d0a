use Rattle.std.proofs.Common.{◌≡◌, map, ap, ◌∙◌, length, arith, string_bytes}
use Rattle.dexruns.specs.Merges.{IsPrefixAppended}
use Rattle.dexcmd.specs.Reports.{done, standard_name}
use Rattle.dexcmd.specs.Ran.{IsCountRun}
use Rattle.dexcmd.proofs.Done.{count_named, ended_named, has_run, failed_left, left_is}
use Rattle.dexcmd.proofs.Named.{texts_count}
use Rattle.dexcmd.proofs.jobs.count.Goals as goal

pub report-requires-clause-named : goal.report-requires-clause-named
report-requires-clause-named g c =
    let same : length c.args.inputs.now ≡ length c.as_slice-names.result.now = omega (arith, c.requires.count, texts_count string_bytes (λ name. name.now) c.args.files.now c.as_slice-names.result.now c.in_ok-texts.texts.items c.as_slice-names.ensures.value c.in_ok-texts.ensures) in
    ended_named (length c.as_slice-names.result.now) _ (count_named g.R.Source.reports g.R.Source.to_come c.args.inputs.now (length c.as_slice-names.result.now) same
    (IsPrefixAppended (g.W.Sink.reports c.args.out.now) (g.W.Sink.taken c.args.out.now) (g.W.Sink.taken c.count_run.new.out)))
    c.count_run.result c.done-outcome.result c.done-outcome.ensures c.count_run.ensures.fault

pub returns-clause-done : goal.returns-clause-done
returns-clause-done g c =
    has_run c.report.result done (λ _. IsCountRun g.R.Source.reports g.R.Source.to_come g.R.Source.expected_len g.R.Source.has_failed g.W.Sink.reports g.W.Sink.taken g.W.Sink.has_failed c.args.inputs.now c.count_run.new.inputs c.args.out.now c.count_run.new.out)
    (map string_bytes c.args.files.now) (map (λ name. name.now) c.as_slice-names.result.now) c.in_ok-draft.draft.target.now standard_name c.is_closed.result (g.W.Output.is_closed c.count_run.new.out) c.count_run.result c.done-outcome.result
    c.done-outcome.ensures c.is_closed.ensures (ap (map (λ name. name.now)) c.as_slice-names.ensures.value ∙ c.in_ok-texts.ensures) c.in_ok-draft.ensures.target
    (record { counted = c.count_run.ensures.counted; fault = c.count_run.ensures.fault; unwritten = c.count_run.ensures.left; no_further = c.count_run.ensures.no_further; readers = c.count_run.ensures.readers; writer = c.count_run.ensures.writer; devices = c.count_run.ensures.devices }) c.report.ensures.report

pub returns-clause-failed : goal.returns-clause-failed
returns-clause-failed g c =
    failed_left c.args.out.now c.count_run.new.out c.report.result _ (left_is c.args.out.now c.count_run.new.out) c.count_run.result c.done-outcome.result c.done-outcome.ensures c.report.ensures.failed c.count_run.ensures.left
