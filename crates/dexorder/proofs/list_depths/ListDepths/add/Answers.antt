use Rattle.dexorder.proofs.Common.{◌∙◌, List, None, Option, Some, ℕ, ap, arith, drop, get_or, length-map, map, present, refl, set, subst, sym, take_all, ◌∷◌, length}
use Rattle.dexorder.specs.declared.depths.Reached.{Reached}
use Rattle.dexorder.specs.declared.depths.Reached.TheVariants.{Depth}
use Rattle.dexorder.specs.declared.depths.Visit.{Visit}
use Rattle.dexorder.specs.internal.Searching.{HasReached, IsDepthBelow, parents_in, parents_of_all}
use Rattle.dexorder.proofs.ByType.{parents_of_one, parents_rest}
use Rattle.dexorder.proofs.ListDepths.{known_more}
use Rattle.dexorder.proofs.list_depths.ListDepths.add.Given.{Over}
use Rattle.dexorder.proofs.list_depths.ListDepths.add.Goals as goal

-- the parents of each class
abbrev parents : (g : Over) → List (Option ℕ) → List g.row.C.Denot → List (List (Option ℕ))
parents g by_type cs = parents_of_all by_type g.C.HasParents.superclass_of g.C.HasParents.interfaces_of cs

pub returns-in-Depth : goal.returns-in-Depth
returns-in-Depth g c =
    let by_type = c.args.by_type.now in
    let cs = c.args.classes.now in
    let all = parents g by_type cs in
    let x = c.index-classes-class.result in
    let few = length-map cs (λ y. parents_in by_type (g.C.HasParents.superclass_of y) (g.C.HasParents.interfaces_of y)) in
    let own = None ∷ map (λ t. get_or by_type t None) (g.C.HasParents.interfaces_of x) in
    let reached = subst (λ (v : Visit). HasReached own c.args.depths.now v (Depth c.in-Depth.depth)) c.of.ensures (subst (λ (r : Reached). HasReached own c.args.depths.now c.of.result r) c.in-Depth.is c.continued.ensures) in
    let below = subst (λ (ps : List (Option ℕ)). IsDepthBelow (map present all) (present ps) c.in-Depth.depth) (take_all (length own) own (omega arith)) (reached (map present all) c.requires.known (record { under = refl; not_under = refl })) in
    let one = parents_of_one by_type g.C.HasParents.superclass_of g.C.HasParents.interfaces_of cs c.args.class x c.requires.class c.index-classes-class.is in
    let rest = ap (drop 1) one ∙ parents_rest by_type (g.C.HasParents.superclass_of x) (g.C.HasParents.interfaces_of x) in
    let first = c.in-Some.ensures.lookup.3 in
    known_more all c.args.self.now c.requires.lists c.args.class first.0 (omega (arith, c.requires.class, few)) _ c.in-Depth.depth (omega (arith, c.requires.class, few, c.if-first-class.true, first.1 0))
    (subst (λ (ps : List (Option ℕ)). IsDepthBelow (map present all) (present ps) c.in-Depth.depth) (sym rest) below)
    refl (ap (λ k. set c.args.self.now.depths.items k (Some c.in-Depth.depth)) (first.1 0))
