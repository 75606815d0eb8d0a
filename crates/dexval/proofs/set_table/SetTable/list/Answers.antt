use Rattle.dexval.proofs.Common.{Some, ◌<◌, length, map, sym, subst, arith, All, length-map, IsPlaceIn}
use Rattle.dexval.specs.KeptSets.{set_in}
use Rattle.dexval.proofs.TableGrowth.{mapped_at}
use Rattle.dexval.proofs.set_table.SetTable.list.Goals as goal

pub returns-in-Some-clause-places : goal.returns-in-Some-clause-places
returns-in-Some-clause-places c =
    let Held = IsPlaceIn (map set_in c.self.inside.sets.items) in
    let lt : c.in-Some.place < length c.self.inside.lists.items = omega (arith, subst (λ t. IsPlaceIn t.lists (Some c.in-Some.place)) (sym c.self.view_is) (subst (IsPlaceIn c.args.self.now.lists) c.in-Some.is c.requires), length-map c.self.inside.lists.items (λ l. l.items)) in
    subst (λ t. All (IsPlaceIn t.sets) c.deref.result.now) c.self.view_is (subst (All Held) (sym c.deref.ensures.value) (mapped_at (λ l. l.items) (All Held) c.self.inside.lists.items c.in-Some.place c.index.result.now lt c.index.ensures c.self.invariant))
