use Rattle.std.proofs.Common.{rules}
use Rattle.dexorder.proofs.Common.{None, ap, append-nil, cases_lt, false, get_or, get_or_read, inl, inr, true, ◌≡◌, ◌∙◌, ◌<◌, [], All, ℕ, List, length, length-map, map, map-map, arith, sym, subst}
use Rattle.std.specs.Prelude.{replicate}
use Rattle.dexorder.specs.{AreDepths, classes_of_types, parent_types}
use Rattle.dexorder.specs.internal.Searching.{AreListDepths, IsSearch, IsWaitingFor, parents_in, parents_of_all}
use Rattle.dexspec.specs.Lists.{present}
use Rattle.dexorder.proofs.ByType.{all_present, equal_parents, parents_some}
use Rattle.dexorder.proofs.SearchLaws.{search_none, all_depths, before_seen, begun_seen, search_begun}
use Rattle.dexorder.proofs.depths.depths_with_firsts.Goals as goal
use Rattle.dexorder.proofs.depths.depths_with_firsts.Goals.{then-not-index+in_ok-begin+in_default, else-not-index}

pub loop-visit-init : goal.loop-visit-init
loop-visit-init g c =
    let parents = parents_of_all c.in_ok-by_type.by_type.items g.C.HasParents.superclass_of g.C.HasParents.interfaces_of c.args.classes.now in
    let s = c.loop-class.search in
    let count = length-map c.args.classes.now (λ x. parents_in c.in_ok-by_type.by_type.items (g.C.HasParents.superclass_of x) (g.C.HasParents.interfaces_of x)) in
    record {
      search = search_begun parents s c.begin.new.self c.loop-class.class c.in_ok-begin.ensures (subst (IsSearch parents s) (sym c.loop-class.invariant.path) c.loop-class.invariant.search) (omega (arith, count, c.loop-class-test.true))
          (parents_some c.in_ok-by_type.by_type.items g.C.HasParents.superclass_of g.C.HasParents.interfaces_of c.args.classes.now c.loop-class.class c.loop-class-test.true)
          (subst (All (IsWaitingFor (map present parents) c.loop-class.class)) (sym c.loop-class.invariant.path) (λ k d lt. absurd (omega arith)));
      lists = c.loop-class.invariant.lists;
      seen = λ k lt. before_seen s c.begin.new.self c.loop-class.class k c.in_ok-begin.ensures lt (c.loop-class.invariant.seen k lt);
      begun = begun_seen s c.begin.new.self c.loop-class.class c.in_ok-begin.ensures (omega (arith, count, c.loop-class.invariant.search.seen_count, c.loop-class-test.true));
    }

pub step-requires-clause-within : goal.step-requires-clause-within
step-requires-clause-within g c = rw c.deref.ensures.value (λ t i e. omega (arith, (c.in_ok-by_type.ensures.classes.some t i e).0, length-map c.args.classes.now g.C.HasParents.name_of))

pub step-requires-clause-search : goal.step-requires-clause-search
step-requires-clause-search g c =
    let parents = parents_of_all c.in_ok-by_type.by_type.items g.C.HasParents.superclass_of g.C.HasParents.interfaces_of c.args.classes.now in
    let h = subst (IsSearch parents c.loop-visit.search) c.in-Some.ensures.items c.loop-visit.invariant.search in
    rw c.deref.ensures.value (record { depth_count = h.depth_count; seen_count = h.seen_count; known = h.known; unknown = h.unknown; visits = h.visits; waiting = h.waiting })

pub loop-class-preserved : goal.loop-class-preserved
loop-class-preserved g c =
    let parents = parents_of_all c.in_ok-by_type.by_type.items g.C.HasParents.superclass_of g.C.HasParents.interfaces_of c.args.classes.now in
    let count = length-map c.args.classes.now (λ x. parents_in c.in_ok-by_type.by_type.items (g.C.HasParents.superclass_of x) (g.C.HasParents.interfaces_of x)) in
    elim c.if-not-index.branch [
      | then-not-index+in_ok-begin+in_default w ↦
          let left : w.pop.new.self.items ≡ [] = search (rules, w.in_default.ensures) in
          let h = subst (IsSearch parents w.loop-visit.search) (w.in_default.ensures.items ∙ append-nil w.pop.new.self.items ∙ left) w.loop-visit.invariant.search in
          rw w.search-is (record {
            search = record { depth_count = h.depth_count; seen_count = h.seen_count; known = h.known; unknown = h.unknown; visits = h.visits; waiting = h.waiting };
            lists = subst (AreListDepths parents) (sym w.lists-is) w.loop-visit.invariant.lists;
            path = left;
            seen = λ k lt. elim (cases_lt k c.loop-class.class) [
              | inl less ↦ w.loop-visit.invariant.seen k less
              | inr ge ↦ subst (λ (j : ℕ). get_or w.loop-visit.search.is_seen.items j false ≡ true) (omega (arith, lt, ge)) w.loop-visit.invariant.begun
            ];
          })
      | else-not-index w ↦
          let within : c.loop-class.class < length c.loop-class.search.is_seen.items = omega (arith, count, c.loop-class.invariant.search.seen_count, c.loop-class-test.true) in
          rw w.search-is (record {
            search = c.loop-class.invariant.search;
            lists = subst (AreListDepths parents) (sym w.lists-is) c.loop-class.invariant.lists;
            path = c.loop-class.invariant.path;
            seen = λ k lt. elim (cases_lt k c.loop-class.class) [
              | inl less ↦ c.loop-class.invariant.seen k less
              | inr ge ↦ subst (λ (j : ℕ). get_or c.loop-class.search.is_seen.items j false ≡ true) (omega (arith, lt, ge)) (sym (get_or_read c.loop-class.search.is_seen.items c.loop-class.class _ within c.index.ensures false) ∙ w.if-not-index.false)
            ];
          })
    ]

pub returns : goal.returns
returns g c =
    let cs = c.args.classes.now in
    let by_type = c.in_ok-by_type.by_type.items in
    let parents = parents_of_all by_type g.C.HasParents.superclass_of g.C.HasParents.interfaces_of cs in
    let types_of : g.row.C.Denot → List ℕ = λ y. parent_types (g.C.HasParents.superclass_of y) (g.C.HasParents.interfaces_of y) in
    let count = length-map cs (λ x. parents_in by_type (g.C.HasParents.superclass_of x) (g.C.HasParents.interfaces_of x)) in
    record {
      classes = map (λ (y : g.row.C.Denot). classes_of_types by_type (types_of y)) cs;
      are = record { by_type = by_type; are = c.in_ok-by_type.ensures.classes; is = sym (map-map (classes_of_types by_type) types_of cs) };
      found = subst (λ (l : List (List ℕ)). AreDepths l c.loop-class.search.depths.items) (all_present by_type g.C.HasParents.superclass_of g.C.HasParents.interfaces_of cs)
          (all_depths parents c.loop-class.search c.loop-class.invariant.search (λ k lt. c.loop-class.invariant.seen k (omega (arith, lt, count, c.loop-class-test.false))));
    }

pub loop-class-init : goal.loop-class-init
loop-class-init g c =
    let parents = parents_of_all c.in_ok-by_type.by_type.items g.C.HasParents.superclass_of g.C.HasParents.interfaces_of c.args.classes.now in
    let count = length-map c.args.classes.now (λ x. parents_in c.in_ok-by_type.by_type.items (g.C.HasParents.superclass_of x) (g.C.HasParents.interfaces_of x)) in
    let lists : AreListDepths parents c.in_ok-lists.lists = c.in_ok-lists.ensures parents count (equal_parents c.in_ok-by_type.by_type.items g.C.HasParents.superclass_of g.C.HasParents.interfaces_of c.args.classes.now c.args.firsts.now c.requires.firsts) in
    record {
      search = search_none parents (record { depths = c.in_ok-vec.field-0; is_seen = c.in_ok-vec-2.field-0; path = c.new.result })
          (c.in_ok-vec.ensures.items_if_clones_equal (λ y e. search rules) ∙ ap (λ n. replicate n None) (sym count))
          (c.in_ok-vec-2.ensures.items_if_clones_equal (λ y e. e) ∙ ap (λ n. replicate n false) (sym count));
      lists = lists;
      path = c.new.ensures.items;
      seen = λ k lt. absurd (omega arith);
    }
