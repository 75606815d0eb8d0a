use Rattle.dexval.proofs.Common.{List, Maps, map, ap, subst, ◌∙◌, NumberedSet, NumberedTable, AreRemappedSets}
use Rattle.dexval.specs.KeptSets.{set_in}
use Rattle.dexval.proofs.set_table.SetTable.renumber.Goals as goal

pub returns-clause-sets : goal.returns-clause-sets
returns-clause-sets c =
    let was = c.prepare_sets.ensures.sets ∙ ap (λ (t : NumberedTable). t.sets) c.self.view_is in
    let done = map set_in c.renumber_sets.new.sets.items in
    subst (λ (ss : List NumberedSet). AreRemappedSets c.args.items.now ss done) was
    (subst (λ (r : Maps). AreRemappedSets r (map set_in c.prepare_sets.new.sets.items) done) (c.remap.ensures ∙ c.prepare_sets.ensures.items) c.renumber_sets.ensures.sets)
