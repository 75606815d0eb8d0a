use Rattle.dexval.proofs.Common.{◌≡◌, ◌∙◌, List, [], ◌∷◌, ◌++◌, map, ap, sym, subst, ℕ, Option, map-append, NumberedTable, Extends}
use Rattle.dexval.specs.KeptSets.{set_in}
use Rattle.dexval.proofs.TableGrowth.{list_added}
use Rattle.dexval.proofs.set_table.SetTable.add_list.Goals as goal

pub returns-clause-extends : goal.returns-clause-extends
returns-clause-extends c =
    let t : NumberedTable = record { sets = map set_in c.self.inside.sets.items; lists = map (λ l. l.items) c.self.inside.lists.items } in
    let more : map (λ l. l.items) c.push.new.self.items ≡ t.lists ++ c.args.list.items ∷ [] = ap (map (λ l. l.items)) c.in_ok-push.ensures.items ∙ map-append (λ l. l.items) c.self.inside.lists.items (c.args.list ∷ []) in
    subst (λ u. Extends u (record { sets = t.sets; lists = map (λ l. l.items) c.push.new.self.items })) c.self.view_is (subst (λ (ls : List (List (Option ℕ))). Extends t (record { sets = t.sets; lists = ls })) (sym more) (list_added t c.args.list.items))
