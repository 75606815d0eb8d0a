use Rattle.std.proofs.Common.{◌≡◌, map, ap, ◌∙◌, length, arith, refl, string_bytes}
use Rattle.std.proofs.lemmas.Result.{IfErr-weaker}
use Rattle.dexcmd.specs.Reports.{standard_name}
use Rattle.dexcmd.specs.Ran.{IsCompareRun}
use Rattle.dexcmd.proofs.Done.{compare_named, has_run, unreported_left}
use Rattle.dexcmd.proofs.Named.{texts_count}
use Rattle.dexcmd.proofs.jobs.compare.Goals as goal

pub report-requires-clause-named : goal.report-requires-clause-named
report-requires-clause-named g c =
    let same : length c.args.inputs.now ≡ length c.as_slice-names.result.now = omega (arith, c.requires.count, texts_count string_bytes (λ name. name.now) c.args.files.now c.as_slice-names.result.now c.in_ok-texts.texts.items c.as_slice-names.ensures.value c.in_ok-texts.ensures) in
    IfErr-weaker c.compare_run-outcome.result _ _ (compare_named g.R.Source.reports g.R.Source.to_come c.args.inputs.now (length c.as_slice-names.result.now) same c.args.is_stripped c.args.comparison (map (λ name. name.now) c.as_slice-names.result.now) _) c.compare_run-outcome.ensures.fault

pub returns-clause-done : goal.returns-clause-done
returns-clause-done g c =
    has_run c.report.result (λ outcome. outcome) (λ names. IsCompareRun g.R.Source.reports g.R.Source.to_come g.R.Source.expected_len g.R.Source.has_failed g.W.Sink.reports g.W.Sink.taken g.W.Sink.has_failed c.args.comparison c.args.is_stripped names c.args.inputs.now c.compare_run-outcome.new.inputs c.args.out.now c.compare_run-outcome.new.out)
    (map string_bytes c.args.files.now) (map (λ name. name.now) c.as_slice-names.result.now) c.in_ok-draft.draft.target.now standard_name c.is_closed.result (g.W.Output.is_closed c.compare_run-outcome.new.out) c.compare_run-outcome.result c.compare_run-outcome.result
    refl c.is_closed.ensures (ap (map (λ name. name.now)) c.as_slice-names.ensures.value ∙ c.in_ok-texts.ensures) c.in_ok-draft.ensures.target
    (record { compared = c.compare_run-outcome.ensures.compared; fault = c.compare_run-outcome.ensures.fault; unwritten = c.compare_run-outcome.ensures.left; goes_on_telling = c.compare_run-outcome.ensures.reports; no_further = c.compare_run-outcome.ensures.no_further; readers = c.compare_run-outcome.ensures.readers; writer = c.compare_run-outcome.ensures.writer; devices = c.compare_run-outcome.ensures.devices }) c.report.ensures.report

pub returns-clause-failed : goal.returns-clause-failed
returns-clause-failed g c = unreported_left c.args.out.now c.compare_run-outcome.new.out c.report.result c.compare_run-outcome.result c.report.ensures.failed c.compare_run-outcome.ensures.left
