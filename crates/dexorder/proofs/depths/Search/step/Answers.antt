use Rattle.dexorder.proofs.Common.{set, Some, ◌≡◌, ◌∙◌, ◌<◌, ℕ, List, Option, false, length, length-map, map, present, refl, sym, ap, subst, arith, get_or_read}
use Rattle.std.specs.Vec.{with_item}
use Rattle.dexorder.specs.{HaveParentsWithin}
use Rattle.dexorder.specs.declared.depths.Search.{Search}
use Rattle.dexorder.specs.declared.depths.Visit.{Visit}
use Rattle.dexorder.specs.internal.Searching.{AreBelow, AreKnownDepths, AreParentsWithin, HasReachedIn, IsSearch, IsWaiting, work_left, parents_at, parents_in, parents_of_all}
use Rattle.dexorder.proofs.ByType.{parents_some, parents_within}
use Rattle.dexorder.proofs.SearchLaws.{all_wait_next, begun_nearer, known_below, last_visit, later_nearer, next_within, reached_visit, search_begun, search_cut, search_finished, search_later}
use Rattle.dexorder.proofs.depths.Search.step.Given.{Over}
use Rattle.dexorder.proofs.depths.Search.step.Goals as goal
use Rattle.dexorder.proofs.depths.Search.step.Goals.{In-Depth, In-Waiting}

-- the parents of each class
abbrev parents : (g : Over) → List (Option ℕ) → List g.row.C.Denot → List (List (Option ℕ))
parents g by_type cs = parents_of_all by_type g.C.HasParents.superclass_of g.C.HasParents.interfaces_of cs

within : (g : Over) (by_type : List (Option ℕ)) (cs : List g.row.C.Denot) → AreParentsWithin by_type (length cs) → HaveParentsWithin (map present (parents g by_type cs))
within g by_type cs h = parents_within by_type g.C.HasParents.superclass_of g.C.HasParents.interfaces_of cs h

-- the parent that it waits for
waiting : (g : Over) (c : In-Waiting g) → IsWaiting (parents_at (parents g c.args.by_type.now c.args.classes.now) c.args.visit.class) c.args.self.now.depths.items c.args.visit c.in-Waiting.visit c.in-Waiting.parent
waiting g c = subst (HasReachedIn (parents g c.args.by_type.now c.args.classes.now) c.args.self.now.depths.items c.args.visit) c.in-Waiting.is c.reached.ensures

parent_within : (g : Over) (c : In-Waiting g) → c.in-Waiting.parent < length c.args.self.now.is_seen.items
parent_within g c =
    let w = waiting g c in
    omega (arith, c.requires.search.seen_count, next_within (parents g c.args.by_type.now c.args.classes.now) c.args.self.now c.args.self.now.path.items c.args.visit c.requires.search c.in-Waiting.parent c.in-Waiting.visit.passed w.within w.is (within g c.args.by_type.now c.args.classes.now c.requires.within))

pub index-requires : goal.index-requires
index-requires g c = omega (arith, parent_within g (goal.at.index-requires g c).In-Waiting)

pub begin-requires : goal.begin-requires
begin-requires g c = parent_within g (goal.at.begin-requires g c).In-Waiting

-- the search once the class of the visit has its depth
finished : (g : Over) (c : In-Depth g) (t : Search) → t.depths.items ≡ set c.args.self.now.depths.items c.args.visit.class (Some c.in-Depth.depth) → t.is_seen.items ≡ c.args.self.now.is_seen.items → IsSearch (parents g c.args.by_type.now c.args.classes.now) t c.args.self.now.path.items
finished g c t depths seen =
    let reached = subst (HasReachedIn (parents g c.args.by_type.now c.args.classes.now) c.args.self.now.depths.items c.args.visit) c.in-Depth.is c.reached.ensures in
    search_finished (parents g c.args.by_type.now c.args.classes.now) c.args.self.now c.args.self.now.path.items c.args.visit c.requires.search t c.in-Depth.depth reached depths seen

-- such a search
grown : (g : Over) → In-Depth g → Search
grown g c = record { depths = with_item c.args.self.now.depths c.args.visit.class (Some c.in-Depth.depth); is_seen = c.args.self.now.is_seen; path = c.args.self.now.path }

grown_is : (g : Over) (c : In-Depth g) → IsSearch (parents g c.args.by_type.now c.args.classes.now) (grown g c) c.args.self.now.path.items
unfolding grown
grown_is g c = finished g c (grown g c) refl refl

pub add-requires-clause-class : goal.add-requires-clause-class
add-requires-clause-class g c = omega (arith, (last_visit (parents g c.args.by_type.now c.args.classes.now) c.args.self.now c.args.self.now.path.items c.args.visit c.requires.search).within, length-map c.args.classes.now (λ x. parents_in c.args.by_type.now (g.C.HasParents.superclass_of x) (g.C.HasParents.interfaces_of x)))

pub add-requires-clause-within : goal.add-requires-clause-within
add-requires-clause-within g c t i e =
    let it = (goal.at.add-requires-clause-within g c).In-Depth in
    let count = (grown_is g it).depth_count in
    let same = ap (λ (l : List (Option ℕ)). length l) c.deref.ensures.value in
    omega (arith, c.requires.within t i e, count, same, length-map c.args.classes.now (λ x. parents_in c.args.by_type.now (g.C.HasParents.superclass_of x) (g.C.HasParents.interfaces_of x)))

pub add-requires-clause-below : goal.add-requires-clause-below
unfolding grown
add-requires-clause-below g c =
    let it = (goal.at.add-requires-clause-below g c).In-Depth in
    subst (λ (l : List (Option ℕ)). AreBelow (length l) l) (sym c.deref.ensures.value) (known_below (parents g c.args.by_type.now c.args.classes.now) (grown g it) _ (grown_is g it) (within g c.args.by_type.now c.args.classes.now c.requires.within))

pub add-requires-clause-known : goal.add-requires-clause-known
unfolding grown
add-requires-clause-known g c =
    let it = (goal.at.add-requires-clause-known g c).In-Depth in
    subst (AreKnownDepths (map present (parents g c.args.by_type.now c.args.classes.now))) (sym c.deref.ensures.value) (grown_is g it).known

pub returns-in-Depth-clause-search : goal.returns-in-Depth-clause-search
returns-in-Depth-clause-search g c = finished g (goal.at.returns-in-Depth-clause-search g c).In-Depth _ refl refl

pub returns-in_ok-begin-in-Waiting-clause-search : goal.returns-in_ok-begin-in-Waiting-clause-search
returns-in_ok-begin-in-Waiting-clause-search g c =
    let it = (goal.at.returns-in_ok-begin-in-Waiting-clause-search g c).In-Waiting in
    let w = waiting g it in
    let s = c.args.self.now in
    let visit = reached_visit (parents g c.args.by_type.now c.args.classes.now) s s.path.items c.args.visit c.requires.search c.in-Waiting.visit c.in-Waiting.parent w in
    let later = search_later (parents g c.args.by_type.now c.args.classes.now) s s.path.items c.args.visit c.requires.search c.in-Waiting.visit _ _ w.class visit refl refl c.in_ok-push-in-Waiting.ensures.items in
    search_begun (parents g c.args.by_type.now c.args.classes.now) _ c.begin.new.self c.in-Waiting.parent c.in_ok-begin-in-Waiting.ensures later
    (omega (arith, parent_within g it, c.requires.search.seen_count))
    (parents_some c.args.by_type.now g.C.HasParents.superclass_of g.C.HasParents.interfaces_of c.args.classes.now c.in-Waiting.parent (omega (arith, parent_within g it, c.requires.search.seen_count, length-map c.args.classes.now (λ x. parents_in c.args.by_type.now (g.C.HasParents.superclass_of x) (g.C.HasParents.interfaces_of x)))))
    (rw c.in_ok-push-in-Waiting.ensures.items (all_wait_next (parents g c.args.by_type.now c.args.classes.now) s s.path.items c.args.visit c.requires.search c.in-Waiting.parent c.in-Waiting.visit.passed w.within w.is c.in-Waiting.visit w.class))

pub returns-in_ok-begin-in-Waiting-clause-nearer : goal.returns-in_ok-begin-in-Waiting-clause-nearer
returns-in_ok-begin-in-Waiting-clause-nearer g c =
    let it = (goal.at.returns-in_ok-begin-in-Waiting-clause-nearer g c).In-Waiting in
    let w = waiting g it in
    let s = c.args.self.now in
    let fresh = sym (get_or_read s.is_seen.items c.in-Waiting.parent _ (parent_within g it) c.index.ensures false) in
    omega (
      arith,
      begun_nearer (parents g c.args.by_type.now c.args.classes.now) _ c.begin.new.self c.in-Waiting.parent c.in_ok-begin-in-Waiting.ensures (omega (arith, parent_within g it, c.requires.search.seen_count)) c.requires.search.seen_count (fresh ∙ c.if-not-index.true),
      later_nearer (parents g c.args.by_type.now c.args.classes.now) s.path.items c.args.visit c.in-Waiting.visit w.class w.later,
      ap (λ (l : List Visit). work_left (parents g c.args.by_type.now c.args.classes.now) l) c.in_ok-push-in-Waiting.ensures.items,
    )

pub returns-else-not-index-clause-search : goal.returns-else-not-index-clause-search
returns-else-not-index-clause-search g c =
    let it = (goal.at.returns-else-not-index-clause-search g c).In-Waiting in
    let w = waiting g it in
    let s = c.args.self.now in
    let seen = sym (get_or_read s.is_seen.items c.in-Waiting.parent _ (parent_within g it) c.index.ensures false) in
    search_cut (parents g c.args.by_type.now c.args.classes.now) s s.path.items c.args.visit c.requires.search c.in-Waiting.parent c.in-Waiting.visit.passed w.within w.is (seen ∙ c.if-not-index.false) w.unknown
