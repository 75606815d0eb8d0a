use Rattle.std.proofs.Common.{◌≡◌, ◌∙◌, ap, map, string_bytes, sym}
use Rattle.dexruns.specs.Conditions.{has_condition}
use Rattle.dexcmd.specs.Explaining.{condition_lines}
use Rattle.dexcmd.proofs.Noted.{noted_more, noted_same}
use Rattle.dexcmd.proofs.explaining.push_conditions.Goals as goal
use Rattle.dexcmd.proofs.explaining.push_conditions.Goals.{then-contains+in_ok-push_condition, else-contains}

pub loop-number-preserved : goal.loop-number-preserved
loop-number-preserved c =
    let lines = condition_lines (map (λ text. text.now) c.args.remedies.now.meanings.now) (map (λ text. text.now) c.args.remedies.now.remedies.now) in
    let among = has_condition c.args.conditions.now in
    elim c.if-contains.branch [
      | then-contains+in_ok-push_condition w ↦ noted_more lines among c.loop-number.number (map string_bytes c.args.lines.now.items) (map string_bytes c.loop-number.lines.items) (map string_bytes c.if-contains.lines.items)
          (sym c.contains.ensures ∙ w.if-contains.true) c.loop-number.invariant (ap (λ v. map string_bytes v.items) w.lines-is ∙ w.in_ok-push_condition.ensures)
      | else-contains w ↦ noted_same lines among c.loop-number.number (map string_bytes c.args.lines.now.items) (map string_bytes c.if-contains.lines.items)
          (sym c.contains.ensures ∙ w.if-contains.false) (ap (λ v. map string_bytes v.items) w.lines-is ∙ c.loop-number.invariant)
    ]
