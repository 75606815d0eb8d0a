use Rattle.dexorder.proofs.Common.{◌≡◌, ◌<◌, ◌∷◌, ◌++◌, [], ℕ, List, Option, ap, arith, get_or, length, length-map, map, present, subst, sym}
use Rattle.dexorder.specs.{HaveParentsWithin}
use Rattle.dexorder.specs.declared.depths.Search.{Search}
use Rattle.dexorder.specs.declared.depths.Visit.{Visit}
use Rattle.dexorder.specs.internal.Searching.{AreBelow, AreParentsWithin, HasReached, HasReachedWith, IsSearch, parents_at, parents_in, parents_of_all}
use Rattle.dexorder.proofs.ByType.{parents_length, parents_of_one, parents_within}
use Rattle.dexorder.proofs.SearchLaws.{known_below, last_visit, reached_in, reached_with}
use Rattle.dexorder.proofs.depths.Search.reached.Given.{Over}
use Rattle.dexorder.proofs.depths.Search.reached.Goals as goal

-- the parents of each class
abbrev parents : (g : Over) → List (Option ℕ) → List g.row.C.Denot → List (List (Option ℕ))
parents g by_type cs = parents_of_all by_type g.C.HasParents.superclass_of g.C.HasParents.interfaces_of cs

within_classes : (g : Over) (by_type : List (Option ℕ)) (cs : List g.row.C.Denot) (s : Search) (v : Visit) → IsSearch (parents g by_type cs) s (s.path.items ++ v ∷ []) → v.class < length cs
within_classes g by_type cs s v h = omega (arith, (last_visit (parents g by_type cs) s s.path.items v h).within, length-map cs (λ y. parents_in by_type (g.C.HasParents.superclass_of y) (g.C.HasParents.interfaces_of y)))

-- those of the class of the visit
one : (g : Over) (by_type : List (Option ℕ)) (cs : List g.row.C.Denot) (s : Search) (v : Visit) (x : g.row.C.Denot) → IsSearch (parents g by_type cs) s (s.path.items ++ v ∷ []) → x ≡ get_or cs v.class x → parents_in by_type (g.C.HasParents.superclass_of x) (g.C.HasParents.interfaces_of x) ≡ parents_at (parents g by_type cs) v.class
one g by_type cs s v x h is = sym (parents_of_one by_type g.C.HasParents.superclass_of g.C.HasParents.interfaces_of cs v.class x (within_classes g by_type cs s v h) is)

within : (g : Over) (by_type : List (Option ℕ)) (cs : List g.row.C.Denot) → AreParentsWithin by_type (length cs) → HaveParentsWithin (map present (parents g by_type cs))
within g by_type cs h = parents_within by_type g.C.HasParents.superclass_of g.C.HasParents.interfaces_of cs h

pub continued_with-requires-clause-below : goal.continued_with-requires-clause-below
continued_with-requires-clause-below g c = subst (λ (l : List (Option ℕ)). AreBelow (length l) l) (sym c.deref.ensures.value) (known_below (parents g c.args.by_type.now c.args.classes.now) c.args.self.now _ c.requires.search (within g c.args.by_type.now c.args.classes.now c.requires.within))

pub continued-requires-clause-passed : goal.continued-requires-clause-passed
continued-requires-clause-passed g c =
    let x = c.index-classes-visit.result in
    let at = ap length (one g c.args.by_type.now c.args.classes.now c.args.self.now c.args.visit x c.requires.search c.index-classes-visit.is) in
    omega (arith, at, (last_visit (parents g c.args.by_type.now c.args.classes.now) c.args.self.now c.args.self.now.path.items c.args.visit c.requires.search).passed, parents_length c.args.by_type.now (g.C.HasParents.superclass_of x) (g.C.HasParents.interfaces_of x))

pub continued-requires-clause-below : goal.continued-requires-clause-below
continued-requires-clause-below g c = subst (λ (l : List (Option ℕ)). AreBelow (length l) l) (sym c.deref-in-None.ensures.value) (known_below (parents g c.args.by_type.now c.args.classes.now) c.args.self.now _ c.requires.search (within g c.args.by_type.now c.args.classes.now c.requires.within))

pub returns-in-Some : goal.returns-in-Some
returns-in-Some g c =
    let x = c.index-classes-visit.result in
    let s = c.args.self.now in
    let v = c.args.visit in
    let all = parents g c.args.by_type.now c.args.classes.now in
    let is = subst (λ (l : List (Option ℕ)). HasReachedWith l s.depths.items c.in-Some.list v c.continued_with.result) (one g c.args.by_type.now c.args.classes.now s v x c.requires.search c.index-classes-visit.is)
    (subst (λ (l : List (Option ℕ)). HasReachedWith (parents_in c.args.by_type.now (g.C.HasParents.superclass_of x) (g.C.HasParents.interfaces_of x)) l c.in-Some.list v c.continued_with.result) c.deref.ensures.value c.continued_with.ensures) in
    reached_with all s s.path.items v c.requires.search c.in-Some.list c.continued_with.result (c.in-Some.ensures all (last_visit all s s.path.items v c.requires.search).within c.requires.lists) is

pub returns-in-None : goal.returns-in-None
returns-in-None g c =
    let x = c.index-classes-visit.result in
    let s = c.args.self.now in
    let v = c.args.visit in
    let all = parents g c.args.by_type.now c.args.classes.now in
    let is = subst (λ (l : List (Option ℕ)). HasReached l s.depths.items v c.continued.result) (one g c.args.by_type.now c.args.classes.now s v x c.requires.search c.index-classes-visit.is)
    (subst (λ (l : List (Option ℕ)). HasReached (parents_in c.args.by_type.now (g.C.HasParents.superclass_of x) (g.C.HasParents.interfaces_of x)) l v c.continued.result) c.deref-in-None.ensures.value c.continued.ensures) in
    reached_in all s s.path.items v c.requires.search c.continued.result is
