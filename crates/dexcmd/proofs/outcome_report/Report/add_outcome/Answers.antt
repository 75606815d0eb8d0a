use Rattle.std.proofs.Common.{map}
use Rattle.dexcmd.proofs.outcome_report.Report.add_outcome.Goals as goal

pub returns-clause-kinds : goal.returns-clause-kinds
returns-clause-kinds c = λ before.
    c.in_ok-add_line.ensures.kinds
    (record { files = map (λ name. name.now) c.args.names.now; out = c.args.out.now; fault = c.in-Err.fault; is = c.in_ok-status.ensures.line; about = c.line_kind.ensures }) before
