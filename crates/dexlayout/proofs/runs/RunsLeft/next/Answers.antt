use Rattle.std.proofs.Common.{rules, ◌≡◌, get_or, length, ap, sym, ◌∙◌}
use Rattle.std.specs.Prelude.{slice_index}
use Rattle.std.proofs.lemmas.Bool.{eqb-false}
use Rattle.dexlayout.proofs.RunNumbers.{first_left}
use Rattle.dexlayout.proofs.runs.RunsLeft.next.Goals as goal

pub returns-clause-first : goal.returns-clause-first
returns-clause-first c =
    let here = c.self.inside in
    let run = c.index-self-run.result in
    let none : length here.front.now ≡ 0 = search rules in
    let run_is = c.index-self-run.is ∙ ap (λ runs. get_or here.kept.now (get_or runs 0 0) run) c.split_at.ensures.front in
    c.split_number-first-2.ensures.first ∙ ap (λ l. slice_index l 0) (c.deref.ensures.value ∙ ap (λ r. r.items) (sym c.index-self-run.is))
    ∙ first_left (λ r. r.items) here.kept.now here.begun.now here.front.now here.runs.now run none (eqb-false (length here.runs.now) 0 (sym c.is_empty-2.ensures ∙ c.if-is_empty.false)) c.self.invariant run_is
    ∙ ap (λ l. slice_index l 0) c.self.view_is
