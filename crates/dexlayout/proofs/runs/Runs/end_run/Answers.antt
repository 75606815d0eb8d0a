use Rattle.std.proofs.Common.{◌∷◌, ◌++◌, [], sym, ◌∙◌, map}
use Rattle.std.specs.Cmp.{unsigned_Decides}
use Rattle.std.specs.Cmp.Lexicographic.{pointwise_decides}
use Rattle.std.proofs.lemmas.Bool.{eqb-false}
use Rattle.std.proofs.lemmas.List.{append-nil}
use Rattle.dexlayout.specs.internal.Runs.{run_numbers}
use Rattle.dexlayout.proofs.RunNumbers.{run_added}
use Rattle.dexlayout.proofs.runs.Runs.end_run.Goals as goal

pub returns : goal.returns
returns c =
    let new = map (λ run. run.items) c.insert_full.new.self.keys in
    let numbers = c.self.inside.begun.items in
    let added = run_added (λ run. run.items) _ (λ x y. (pointwise_decides unsigned_Decides x.items y.items).0) c.self.inside.kept.keys c.insert_full.new.self.keys c.self.inside.runs.items numbers c.in_ok-number.number c.in_ok-run.run' c.self.invariant
    (c.in_ok-run.ensures.items ∙ c.deref.ensures.value) (λ none. eqb-false c.self.inside.begun.len 0 (sym c.is_empty.ensures ∙ c.if-is_empty.false) (c.self.inside.begun.ok.0 ∙ none)) c.in_ok-number.ensures.keys c.in_ok-number.ensures.stored in
    (λ i. run_numbers new (c.in_ok-push.ensures.items i) ++ c.clear.ensures.items i) ∙ append-nil (run_numbers new (c.self.inside.runs.items ++ c.in_ok-number.number ∷ [])) ∙ added ∙ c.self.view_is
