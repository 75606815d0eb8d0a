use Rattle.std.proofs.Common.{length, map, sym, subst, string_bytes}
use Rattle.std.specs.Prelude.{IfOk}
use Rattle.std.proofs.lemmas.List.{length-map}
use Rattle.std.proofs.lemmas.Result.{IfOk-weaker, IfErr-weaker}
use Rattle.dexruns.specs.Inputs.{bytes_read}
use Rattle.dexruns.specs.Listings.{IsUnlisted, IsClassListingPrefix}
use Rattle.dexcmd.specs.Reports.{IsListedReport}
use Rattle.dexcmd.proofs.Done.{input_named, number_below, unlisted_left}
use Rattle.dexcmd.proofs.jobs.dump_classes.Goals as goal

pub report_listed-requires-clause-named : goal.report_listed-requires-clause-named
report_listed-requires-clause-named g c =
    IfErr-weaker c.dump_classes_run-outcome.result _ _ (input_named (g.R.Source.reports c.args.input.now) (bytes_read (g.R.Source.to_come c.args.input.now))) c.dump_classes_run-outcome.ensures.fault

pub report_listed-requires-clause-within : goal.report_listed-requires-clause-within
report_listed-requires-clause-within g c =
    IfOk-weaker c.dump_classes_run-outcome.result _ _ (number_below (length c.args.names.now) c.args.out.now c.dump_classes_run-outcome.new.out) c.dump_classes_run-outcome.ensures.unlisted

pub returns-clause-done : goal.returns-clause-done
returns-clause-done g c =
    IfOk-weaker c.report_listed.result _ _ (λ report h. record {
      outcome = c.dump_classes_run-outcome.result;
      ran = record { accepted = c.dump_classes_run-outcome.ensures.accepted; listed = c.dump_classes_run-outcome.ensures.listed; unlisted = subst (λ n. IfOk c.dump_classes_run-outcome.result (IsUnlisted n c.args.out.now c.dump_classes_run-outcome.new.out)) (sym (length-map c.args.names.now string_bytes)) c.dump_classes_run-outcome.ensures.unlisted; fault = c.dump_classes_run-outcome.ensures.fault; memory = c.dump_classes_run-outcome.ensures.memory; unwritten = c.dump_classes_run-outcome.ensures.left; no_further = c.dump_classes_run-outcome.ensures.no_further; read = c.dump_classes_run-outcome.ensures.read; write = c.dump_classes_run-outcome.ensures.write };
      reported = subst (λ closed. IsListedReport c.args.file.now (map string_bytes c.args.names.now) closed c.dump_classes_run-outcome.result report) c.is_closed.ensures h;
    }) c.report_listed.ensures.report

pub returns-clause-failed : goal.returns-clause-failed
returns-clause-failed g c =
    unlisted_left (length c.args.names.now) c.args.out.now c.dump_classes_run-outcome.new.out
    (IsClassListingPrefix c.args.detail (g.R.Source.reports c.args.input.now) (g.W.Sink.reports c.args.out.now) (map string_bytes c.args.names.now) (g.W.Sink.taken c.args.out.now) (g.W.Sink.taken c.dump_classes_run-outcome.new.out) (bytes_read (g.R.Source.to_come c.args.input.now)))
    c.report_listed.result c.dump_classes_run-outcome.result c.report_listed.ensures.failed c.dump_classes_run-outcome.ensures.unlisted c.dump_classes_run-outcome.ensures.left
