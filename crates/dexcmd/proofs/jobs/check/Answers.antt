use Rattle.std.specs.Prelude.{codes}
use Rattle.std.proofs.lemmas.Simd.{map-map}
use Rattle.dexruns.specs.Names.{name_in_form}
use Rattle.std.proofs.Common.{◌≡◌, map, subst, sym, ap, ◌∙◌, length, arith, refl, string_bytes}
use Rattle.std.proofs.lemmas.Result.{IfErr-weaker}
use Rattle.dexruns.specs.Conditions.{no_conditions}
use Rattle.dexcmd.specs.Jobs.{HasChecked}
use Rattle.dexcmd.specs.Reports.{standard_name}
use Rattle.dexcmd.specs.Ran.{IsCheckRun}
use Rattle.dexcmd.proofs.Done.{check_named, report_is}
use Rattle.dexcmd.proofs.Named.{texts_count}
use Rattle.dexcmd.proofs.jobs.check.Goals as goal

pub report-requires-clause-named : goal.report-requires-clause-named
report-requires-clause-named g c =
    let same : length c.check_run-outcome.new.inputs ≡ length c.as_slice-names.result.now = omega (arith, c.check_run-outcome.auto.inputs, c.requires.count, texts_count string_bytes (λ name. name.now) c.args.files.now c.as_slice-names.result.now c.in_ok-texts.texts.items c.as_slice-names.ensures.value c.in_ok-texts.ensures) in
    IfErr-weaker c.check_run-outcome.result _ _ (check_named g.R.Source.has_failed c.check_run-outcome.new.inputs (g.W.Sink.has_failed c.check_run-outcome.new.out) (length c.as_slice-names.result.now) same)
    c.check_run-outcome.ensures.fault

pub returns : goal.returns
returns g c =
    let names = map (λ name. name.now) c.as_slice-names.result.now in
    let same : names ≡ map string_bytes c.args.files.now = ap (map (λ name. name.now)) c.as_slice-names.ensures.value ∙ c.in_ok-texts.ensures in
    let run : IsCheckRun g.R.Source.reports g.R.Source.to_come g.R.Source.expected_len g.R.Source.has_failed g.W.Sink.reports g.W.Sink.taken g.W.Sink.has_failed (map (λ file. name_in_form c.args.form file (codes ": ")) names) c.args.inputs.now c.check_run-outcome.new.inputs c.args.out.now c.check_run-outcome.new.out no_conditions c.check_run-outcome.new.conditions c.check_run-outcome.result =
    subst (λ heads. IsCheckRun g.R.Source.reports g.R.Source.to_come g.R.Source.expected_len g.R.Source.has_failed g.W.Sink.reports g.W.Sink.taken g.W.Sink.has_failed heads c.args.inputs.now c.check_run-outcome.new.inputs c.args.out.now c.check_run-outcome.new.out no_conditions c.check_run-outcome.new.conditions c.check_run-outcome.result)
    (sym (map-map (λ file. name_in_form c.args.form file (codes ": ")) (λ name. name.now) c.as_slice-names.result.now))
    (subst (λ set. IsCheckRun g.R.Source.reports g.R.Source.to_come g.R.Source.expected_len g.R.Source.has_failed g.W.Sink.reports g.W.Sink.taken g.W.Sink.has_failed (map (λ name. name_in_form c.args.form name.now (codes ": ")) c.as_slice-names.result.now) c.args.inputs.now c.check_run-outcome.new.inputs c.args.out.now c.check_run-outcome.new.out set c.check_run-outcome.new.conditions c.check_run-outcome.result) c.new-conditions.ensures
    (record { lines = c.check_run-outcome.ensures.lines; begun = c.check_run-outcome.ensures.begun; no_further = c.check_run-outcome.ensures.no_further; readers = c.check_run-outcome.ensures.readers; writer = c.check_run-outcome.ensures.writer; fault = c.check_run-outcome.ensures.fault; goes_on_telling = c.check_run-outcome.ensures.reports })) in
    let said = report_is names c.in_ok-draft.draft.target.now standard_name c.is_closed.result (g.W.Output.is_closed c.check_run-outcome.new.out) c.check_run-outcome.result c.check_run-outcome.result c.in_ok-report.report c.in_ok-draft.ensures.target c.is_closed.ensures refl c.in_ok-report.ensures.report in
    subst (λ files. HasChecked g.W.Output.is_closed g.R.Source.reports g.R.Source.to_come g.R.Source.expected_len g.R.Source.has_failed g.W.Sink.reports g.W.Sink.taken g.W.Sink.has_failed c.args.form c.args.inputs.now c.check_run-outcome.new.inputs c.args.out.now c.check_run-outcome.new.out files (record c.in_ok-report.report { conditions = c.check_run-outcome.new.conditions })) same
    (record { outcome = c.check_run-outcome.result; conditions = c.check_run-outcome.new.conditions; ran = run; reported = record { exit = said.exit; printed = said.printed; about = said.about; noted = refl } })
