use Rattle.std.proofs.Common.{refl, ◌∙◌, subst, [], inl, inr, arith, Err}
use Rattle.std.proofs.lemmas.Result.{IfOk-weaker}
use Rattle.dexruns.specs.declared.faults.RunFault.TheVariants.{Write}
use Rattle.dexcmd.specs.Jobs.{reported_name}
use Rattle.dexcmd.specs.Reports.{IsReportOf}
use Rattle.dexcmd.proofs.jobs.finish_job.Goals as goal

pub returns-then-report-clause-done : goal.returns-then-report-clause-done
returns-then-report-clause-done g c = record {
  written = c.run_job.new.out;
  ran = c.in_ok-report.report;
  is_done = c.in_ok-report.ensures.done;
  placed = λ is. absurd (omega (arith, is));
  unwritten = refl;
  unfinished = λ _. (refl, refl);
}

pub returns-in-Ok-clause-done : goal.returns-in-Ok-clause-done
returns-in-Ok-clause-done g c = record {
  written = c.run_job.new.out;
  ran = c.in_ok-report.report;
  is_done = c.in_ok-report.ensures.done;
  placed = λ _. inl (refl, c.in-Ok.ensures.placed, c.in-Ok.ensures.works);
  unwritten = c.in-Ok.ensures.unwritten;
  unfinished = λ not. absurd (not (omega arith));
}

pub returns-in-Err-clause-done : goal.returns-in-Err-clause-done
returns-in-Err-clause-done g c =
    IfOk-weaker c.report.result _ _ (λ report h. record {
      written = c.run_job.new.out;
      ran = c.in_ok-report.report;
      is_done = c.in_ok-report.ensures.done;
      placed = λ _. inr (subst (λ closed. IsReportOf [] (reported_name c.args.job.now) closed (Err Write) report) c.is_closed.ensures (subst (λ name. IsReportOf [] name c.is_closed.result (Err Write) report) (c.in_ok-draft.ensures.target ∙ c.reported_name.ensures) h), c.in-Err.ensures.fails);
      unwritten = c.in-Err.ensures.unwritten;
      unfinished = λ not. absurd (not (omega arith));
    }) c.report.ensures.report
