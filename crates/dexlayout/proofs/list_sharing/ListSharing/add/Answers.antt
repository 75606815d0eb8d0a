use Rattle.dexlayout.proofs.Common.{◌∷◌, [], ◌++◌, ap, ◌∙◌}
use Rattle.dexlayout.proofs.SharedUses.{items_same, uses_pass, uses_take}
use Rattle.dexlayout.proofs.list_sharing.ListSharing.add.Goals as goal
use Rattle.dexlayout.proofs.list_sharing.ListSharing.add.Goals.{in-Some+in_ok-insert_full-in-Some, in-None}

pub returns : goal.returns
returns g c = λ uses h. elim c.match-used.branch [
  | in-Some+in_ok-insert_full-in-Some w ↦
      items_same g.T.PartialEq.eq g.met.T.Eq.laws (ap (λ u. uses ++ u ∷ []) w.in-Some.is) (ap (λ s. s.items.keys) w.self-is ∙ w.in_ok-insert_full-in-Some.ensures.keys)
      (c.in_ok-push.ensures ∙ ap (λ s. s.numbers ++ c.in_ok-of.field-0 ∷ []) w.self-is ∙ ap (λ n. c.args.self.now.numbers ++ n ∷ []) (c.in_ok-of.ensures ∙ w.number-is))
      (uses_take g.T.PartialEq.eq g.met.T.Eq.laws h w.in-Some.item w.in_ok-insert_full-in-Some.field-0.0 w.in_ok-insert_full-in-Some.ensures.index)
  | in-None w ↦
      items_same g.T.PartialEq.eq g.met.T.Eq.laws (ap (λ u. uses ++ u ∷ []) w.in-None.is) (ap (λ s. s.items.keys) w.self-is)
      (c.in_ok-push.ensures ∙ ap (λ s. s.numbers ++ c.in_ok-of.field-0 ∷ []) w.self-is ∙ ap (λ n. c.args.self.now.numbers ++ n ∷ []) (c.in_ok-of.ensures ∙ w.number-is))
      (uses_pass g.T.PartialEq.eq g.met.T.Eq.laws h)
]
