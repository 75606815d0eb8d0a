use Rattle.std.proofs.Common.{ap, ◌∙◌, map, string_bytes}
use Rattle.std.proofs.lemmas.List.{map_push}
use Rattle.dexcmd.proofs.LineKinds.{kind_more}
use Rattle.dexcmd.proofs.outcome_report.Report.add_line.Goals as goal

pub returns-clause-kinds : goal.returns-clause-kinds
returns-clause-kinds c = λ here before.
    kind_more (map string_bytes c.args.self.now.lines.items) _ c.args.self.now.kinds.items _ (string_bytes c.args.line) c.args.kind
    (ap (map string_bytes) c.in_ok-push.ensures.items ∙ map_push string_bytes c.args.self.now.lines.items c.args.line) c.in_ok-push-2.ensures.items before here
