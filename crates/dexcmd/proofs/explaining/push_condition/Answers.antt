use Rattle.std.proofs.Common.{rules, ◌≡◌, ◌∙◌, ◌++◌, ◌∷◌, [], ap, codes, map, string_bytes}
use Rattle.std.proofs.lemmas.List.{map_push}
use Rattle.std.proofs.lemmas.Result.{on_ok_weaker}
use Rattle.dexruns.specs.Lines.{condition_text}
use Rattle.dexcmd.specs.Explaining.{note_of, note_lines}
use Rattle.dexcmd.specs.declared.outcome_report.LineKind.TheVariants.{Refused}
use Rattle.dexcmd.proofs.Noted.{lines_added}
use Rattle.dexcmd.proofs.explaining.push_condition.Goals as goal

pub returns : goal.returns
returns c =
    let old = map string_bytes c.args.lines.now.items in
    let text : string_bytes c.in_ok-format.field-0 ≡ codes "dexkit: " ++ condition_text c.args.number = search rules in
    on_ok_weaker c.push_note-2.result (λ added. lines_added old (map string_bytes c.push.new.self.items) (map string_bytes c.push_note.new.lines.items) (map string_bytes c.push_note-2.new.lines.items) (codes "dexkit: " ++ condition_text c.args.number)
    (note_lines (note_of (Refused c.args.number) (map (λ text. text.now) c.args.remedies.now.meanings.now))) (note_lines (note_of (Refused c.args.number) (map (λ text. text.now) c.args.remedies.now.remedies.now)))
    (ap (map string_bytes) c.in_ok-push.ensures.items ∙ map_push string_bytes c.args.lines.now.items c.in_ok-format.field-0 ∙ ap (λ line. old ++ line ∷ []) text)
    (c.in_ok-push_note.ensures ∙ ap (λ note. map string_bytes c.push.new.self.items ++ note_lines note) c.note_of.ensures)
    (added ∙ ap (λ note. map string_bytes c.push_note.new.lines.items ++ note_lines note) c.note_of-2.ensures)) c.push_note-2.ensures
