use Rattle.std.proofs.Common.{◌≡◌, map, ap, ◌∙◌, length, arith, string_bytes, subst, sym}
use Rattle.std.proofs.lemmas.List.{length-map}
use Rattle.std.proofs.lemmas.Result.{IfOk-weaker}
use Rattle.dexruns.specs.Fans.{IsFanPlan}
use Rattle.dexruns.specs.Merges.{IsPrefixAppended, stripped_if}
use Rattle.dexmerge.specs.Plans.{plan_of}
use Rattle.dexcmd.specs.Reports.{done}
use Rattle.dexcmd.specs.Ran.{IsMergeRun}
use Rattle.dexcmd.proofs.Done.{merge_named, ended_named, has_run, failed_left, left_is}
use Rattle.dexcmd.proofs.Named.{texts_count}
use Rattle.dexcmd.proofs.jobs.merge.Goals as goal

pub report-requires-clause-named : goal.report-requires-clause-named
report-requires-clause-named g c =
    let same : length c.args.inputs.now ≡ length c.as_slice-names.result.now = omega (arith, c.requires.count, texts_count string_bytes (λ name. name.now) c.args.job.now.files.now c.as_slice-names.result.now c.in_ok-texts.texts.items c.as_slice-names.ensures.value c.in_ok-texts.ensures) in
    ended_named (length c.as_slice-names.result.now) _ (merge_named g.R.Source.reports g.R.Source.to_come c.args.inputs.now (length c.as_slice-names.result.now) same
    c.args.job.now.caps.now (plan_of c.in_ok-plan.plan) (stripped_if c.args.job.now.is_stripped) (IsPrefixAppended (g.W.Sink.reports c.args.out.now) (g.W.Sink.taken c.args.out.now) (g.W.Sink.taken c.merge_or_strip_run.new.out)))
    c.merge_or_strip_run.result c.done-outcome.result c.done-outcome.ensures c.merge_or_strip_run.ensures.fault

pub returns-clause-done : goal.returns-clause-done
returns-clause-done g c =
    let names : map (λ name. name.now) c.as_slice-names.result.now ≡ map string_bytes c.args.job.now.files.now = ap (map (λ name. name.now)) c.as_slice-names.ensures.value ∙ c.in_ok-texts.ensures in
    let count : length c.args.job.now.files.now ≡ length (map string_bytes c.args.job.now.files.now) = sym (length-map c.args.job.now.files.now string_bytes) in
    IfOk-weaker c.report.result _ _ (λ report h. record { plan = plan_of c.in_ok-plan.plan; fanned = subst (λ n. IsFanPlan n c.args.job.now.fan (plan_of c.in_ok-plan.plan)) count c.in_ok-plan.ensures.fanned; ran = h })
    (has_run c.report.result done (λ _. IsMergeRun g.R.Source.reports g.R.Source.to_come g.R.Source.expected_len g.R.Source.has_failed g.W.Sink.reports g.W.Sink.taken g.W.Sink.has_failed
    (plan_of c.in_ok-plan.plan) c.args.job.now.caps.now c.args.job.now.is_stripped c.args.inputs.now c.merge_or_strip_run.new.inputs c.args.out.now c.merge_or_strip_run.new.out)
    (map string_bytes c.args.job.now.files.now) (map (λ name. name.now) c.as_slice-names.result.now) c.in_ok-draft.draft.target.now c.args.job.now.target.now c.is_closed.result (g.W.Output.is_closed c.merge_or_strip_run.new.out) c.merge_or_strip_run.result c.done-outcome.result
    c.done-outcome.ensures c.is_closed.ensures names c.in_ok-draft.ensures.target
    (record { merged = c.merge_or_strip_run.ensures.merged; fault = c.merge_or_strip_run.ensures.fault; unwritten = c.merge_or_strip_run.ensures.left; uncalled = c.merge_or_strip_run.ensures.uncalled; no_further = c.merge_or_strip_run.ensures.no_further; readers = c.merge_or_strip_run.ensures.readers; writer = c.merge_or_strip_run.ensures.writer; devices = c.merge_or_strip_run.ensures.devices }) c.report.ensures.report)

pub returns-clause-failed : goal.returns-clause-failed
returns-clause-failed g c =
    failed_left c.args.out.now c.merge_or_strip_run.new.out c.report.result _ (left_is c.args.out.now c.merge_or_strip_run.new.out) c.merge_or_strip_run.result c.done-outcome.result c.done-outcome.ensures c.report.ensures.failed c.merge_or_strip_run.ensures.left
