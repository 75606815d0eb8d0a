use Rattle.std.proofs.Common.{◌≡◌, ◌++◌, length, map, string_bytes}
use Rattle.std.specs.Prelude.{option_map}
use Rattle.dexcmd.specs.Explaining.{explained_lines}
use Rattle.dexcmd.proofs.outcome_report.Report.explained.Given as goal

-- followed by what the lines that are left become, the lines so far are what all become
abbrev pub invariant-loop-line : goal.invariant-loop-line
invariant-loop-line l = record {
  output : option_map (λ reason. reason.now) l.unwritten ≡ option_map string_bytes l.reasons.unwritten;
  so_far : explained_lines (map (λ text. text.now) l.remedies.meanings.now) (map (λ text. text.now) l.remedies.remedies.now) (option_map string_bytes l.reasons.unwritten) (map string_bytes l.reasons.unread.items) (map string_bytes l.fn.self.lines.items) l.fn.self.kinds.items
      ≡ map string_bytes l.lines.items ++ explained_lines (map (λ text. text.now) l.remedies.meanings.now) (map (λ text. text.now) l.remedies.remedies.now) (option_map string_bytes l.reasons.unwritten) (map string_bytes l.unread) (map string_bytes l.plain) l.kinds;
}

abbrev pub decreases-loop-line : goal.decreases-loop-line
decreases-loop-line l = length l.plain
