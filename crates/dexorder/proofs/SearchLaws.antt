-- The steps of a search for depths.
use Rattle.dexorder.proofs.Common.{◌≡◌, ◌≢◌, ◌⊎◌, ℕ, zero, suc, ◌+◌, ◌<◌, ◌≤◌, Bool, true, false, ◌&&◌, cond, max, List, [], ◌∷◌, ◌++◌, length, get_or, None, Some, refl, sym, ap, ◌∙◌, subst, arith, inl, inr, All, length-append, length-set, get_or-set_same, get_or-set_other, set, AllPairs, Contains, list_all, get_or-append_seam, cases_lt, cases_eq, All-push, All-contains, Contains-append_left, Contains-append_right, Contains-append_cases, sum_by_push, Contains-nil, Contains-first, Contains-cons_cases, list_all-member, list_all-from_members, false_from_ne_true, list_all-append, same_Some, ◌-◌, Option, map, present, get_or-map, length-map, take, take_all}
use Rattle.dexspec.proofs.sharing.Sharing.{present_has}
use Rattle.std.proofs.Math.ListN.{get_or-append}
use Rattle.std.proofs.lemmas.List.Quantifiers.{all_pairs_push}
use Rattle.dexorder.specs.declared.depths.Visit.{Visit}
use Rattle.dexorder.specs.declared.depths.Search.{Search}
use Rattle.dexorder.specs.declared.depths.Reached.{Reached}
use Rattle.dexorder.specs.declared.depths.Reached.TheVariants.{Depth, Waiting}
use Rattle.dexorder.specs.{parents_of, is_under, AreDepths, HaveParentsWithin, IsDepth, IsDepthOrNone, HasNone}
use Rattle.dexorder.specs.internal.Searching.{is_under_all, AreBelow, HasDepthBelow, HasReached, HasReachedIn, HasReachedWith, interface_parents, IsWaiting, IsVisit, IsWaitingFor, IsOn, IsSearch, IsDepthBelow, IsBegun, parents_at, work_left, work_unseen}
use Rattle.std.specs.Prelude.{replicate}
use Rattle.std.proofs.lemmas.List.{get_or-replicate, get_or_past, length-replicate}
use Rattle.dexorder.proofs.DepthLaws.{list_all-fails, is_under-suc, is_under-later, parent_within, depth_less}

-- after a class is seen, the bound no longer counts its steps
work_unseen-set : (parents : List (List (Option ℕ))) (seen : List Bool) (i : ℕ) → i < length parents → length seen ≡ length parents → get_or seen i false ≡ false → work_unseen parents (set seen i true) + (2 + length (parents_at parents i)) ≡ work_unseen parents seen
work_unseen-set (ps ∷ parents) (s ∷ seen) zero lt same fresh =
    omega (arith, ap (λ b. cond b 0 (2 + length ps)) fresh)
work_unseen-set (ps ∷ parents) (s ∷ seen) (suc i) lt same fresh = omega (arith, work_unseen-set parents seen i (omega arith) (omega arith) fresh)
work_unseen-set _ _ i lt same fresh = absurd (omega arith)

-- one more visit
work_push : (parents : List (List (Option ℕ))) (path : List Visit) (v : Visit) → work_left parents (path ++ v ∷ []) ≡ work_left parents path + (1 + (length (parents_at parents v.class) - v.passed))
work_push parents path v = sum_by_push (λ (u : Visit). 1 + (length (parents_at parents u.class) - u.passed)) path v

-- so the first visit of a class takes fewer steps than were left
pub begun_nearer : (parents : List (List (Option ℕ))) (s t : Search) (i : ℕ) → IsBegun s i t → i < length parents → length s.is_seen.items ≡ length parents → get_or s.is_seen.items i false ≡ false → work_unseen parents t.is_seen.items + work_left parents t.path.items < work_unseen parents s.is_seen.items + work_left parents s.path.items
begun_nearer parents s t i b lt same fresh = omega (arith, ap (work_unseen parents) b.seen, work_unseen-set parents s.is_seen.items i lt same fresh, ap (work_left parents) b.path ∙ work_push parents s.path.items (record { class = i; passed = 0; depth = 0 }))

-- a visit that goes on takes no more steps
pub later_nearer : (parents : List (List (Option ℕ))) (path : List Visit) (v w : Visit) → w.class ≡ v.class → v.passed ≤ w.passed → work_left parents (path ++ w ∷ []) ≤ work_left parents (path ++ v ∷ [])
later_nearer parents path v w same later = omega (arith, work_push parents path v, work_push parents path w, ap (λ c. length (parents_at parents c)) same, later)

-- and without it there are fewer
pub ended_nearer : (parents : List (List (Option ℕ))) (path : List Visit) (v : Visit) → work_left parents path < work_left parents (path ++ v ∷ [])
ended_nearer parents path v = omega (arith, work_push parents path v)

module _ (classes : List (List ℕ)) where
  -- a class is under n if its parents are
  pub under_parents : (n i : ℕ) → is_under classes n i ≡ is_under_all classes n (parents_of classes i)
  under_parents zero i = refl
  under_parents (suc n) i = refl

  -- more parents are no less deep
  more_parents : (n : ℕ) (ps qs : List ℕ) → is_under_all classes n ps ≡ false → is_under_all classes n (ps ++ qs) ≡ false
  more_parents zero ps qs e = refl
  more_parents (suc n) ps qs e = list_all-append (is_under classes n) ps qs ∙ ap (λ b. b && list_all (is_under classes n) qs) e

  -- the depth with one more parent, of depth d
  pub deeper_under : (m n d p : ℕ) (ps : List ℕ) → n ≤ m → suc d ≤ m → is_under_all classes (suc n) ps ≡ true → IsDepth classes p d → is_under_all classes (suc m) (ps ++ p ∷ []) ≡ true
  deeper_under m n d p ps le lt h k =
      list_all-from_members (is_under classes m) (ps ++ p ∷ []) (λ x c. elim (Contains-append_cases ps (p ∷ []) x c) [
        | inl l ↦ is_under-later classes n m x le (list_all-member (is_under classes n) ps x h l)
        | inr r ↦ elim (Contains-cons_cases p x [] r) [
          | inl e ↦ subst (λ y. is_under classes m y ≡ true) e (is_under-later classes (suc d) m p lt k.under)
          | inr l ↦ absurd (Contains-nil x l)
        ]
      ])

  pub deeper_not_under : (m n d p : ℕ) (ps : List ℕ) → m ≡ max n (suc d) → is_under_all classes n ps ≡ false → IsDepth classes p d → is_under_all classes m (ps ++ p ∷ []) ≡ false
  deeper_not_under m n d p ps e h k = elim (cases_lt n (suc d)) [
    | inl lt ↦ let z : suc d ≡ m = omega arith in subst (λ j. is_under_all classes j (ps ++ p ∷ []) ≡ false) z (list_all-fails (is_under classes d) (ps ++ p ∷ []) p (Contains-append_right ps (p ∷ []) p (Contains-first p [])) k.not_under)
    | inr ge ↦ let z : n ≡ m = omega arith in subst (λ j. is_under_all classes j (ps ++ p ∷ []) ≡ false) z (more_parents n ps (p ∷ []) h)
  ]

-- ---- the state of a search

module _ (parents : List (List (Option ℕ))) where
  -- the parents of a class are those that are classes
  parents_are : (i : ℕ) → i < length parents → parents_of (map present parents) i ≡ present (parents_at parents i)
  parents_are i lt = get_or-map present parents i [] [] lt

  -- nothing is known yet
  same_everywhere : {X : Type 0} (n i : ℕ) (x : X) → get_or (replicate n x) i x ≡ x
  same_everywhere n i x = elim (cases_lt i n) [ inl lt ↦ get_or-replicate n i x x lt | inr ge ↦ get_or_past (replicate n x) i x (omega (arith, ge, length-replicate n x)) ]

  pub search_none : (s : Search) → s.depths.items ≡ replicate (length parents) None → s.is_seen.items ≡ replicate (length parents) false → IsSearch parents s []
  search_none s depths seen = record {
    depth_count = ap length depths ∙ length-replicate (length parents) None;
    seen_count = ap length seen ∙ length-replicate (length parents) false;
    known = λ i d e. absurd (let none : None ≡ Some d = sym (ap (λ ds. get_or ds i None) depths ∙ same_everywhere (length parents) i None) ∙ e in cc);
    unknown = λ i e f. absurd (let none : false ≡ true = sym (ap (λ bs. get_or bs i false) seen ∙ same_everywhere (length parents) i false) ∙ e in cc);
    visits = λ k d lt. absurd (omega arith);
    waiting = λ i j d ij lt. absurd (omega arith);
  }

  -- the visit of a class begins
  pub search_begun : (s t : Search) (i : ℕ) → IsBegun s i t → IsSearch parents s s.path.items → i < length parents → 0 < length (parents_at parents i) → All (IsWaitingFor (map present parents) i) s.path.items → IsSearch parents t t.path.items
  search_begun s t i b h lt some waits =
      let v : Visit = record { class = i; passed = 0; depth = 0 } in
      let path = s.path.items in
      let within : i < length s.is_seen.items = omega (arith, lt, h.seen_count) in
      let same_count : length (set s.is_seen.items i true) ≡ length s.is_seen.items = simp length-set in
      let begun : IsVisit parents v = record { within = lt; passed = some; below = record { under = refl; not_under = refl } } in
      subst (IsSearch parents t) (sym b.path) (record {
        depth_count = ap length b.depths ∙ h.depth_count;
        seen_count = ap length b.seen ∙ same_count ∙ h.seen_count;
        known = λ j k g. h.known j k (sym (ap (λ ds. get_or ds j None) b.depths) ∙ g);
        unknown = λ j seen g. elim (cases_eq j i) [
          | inl same ↦ inl (v, Contains-append_right path (v ∷ []) v (Contains-first v []), sym same)
          | inr ne ↦ elim (h.unknown j (sym (ap (λ bs. get_or bs j false) b.seen ∙ get_or-set_other s.is_seen.items i j true false ne) ∙ seen) (sym (ap (λ ds. get_or ds j None) b.depths) ∙ g)) [
            | inl on ↦ inl (on.0, Contains-append_left path (v ∷ []) on.0 on.1, on.2)
            | inr none ↦ inr none
          ]
        ];
        visits = All-push (IsVisit parents) path v h.visits begun;
        waiting = all_pairs_push (λ u x. IsWaitingFor (map present parents) x.class u) path v h.waiting waits;
      })

  module _ (s : Search) (path : List Visit) (v : Visit) (h : IsSearch parents s (path ++ v ∷ [])) where
    -- the last visit
    pub last_visit : IsVisit parents v
    last_visit = subst (IsVisit parents) (get_or-append_seam path v [] v) (h.visits (length path) v (omega (arith, length-append path (v ∷ []))))

    -- the visits before it
    prefix_visits : All (IsVisit parents) path
    prefix_visits k d lt = subst (IsVisit parents) (get_or-append path (v ∷ []) d k lt) (h.visits k d (omega (arith, length-append path (v ∷ []))))

    prefix_waiting : AllPairs (λ u w. IsWaitingFor (map present parents) w.class u) path
    prefix_waiting i j d ij lt =
        let less : i < length path = omega arith in
        subst (λ w. IsWaitingFor (map present parents) w.class (get_or path i d)) (get_or-append path (v ∷ []) d j lt) (subst (IsWaitingFor (map present parents) (get_or (path ++ v ∷ []) j d).class) (get_or-append path (v ∷ []) d i less) (h.waiting i j d ij (omega (arith, length-append path (v ∷ [])))))

    -- each of them waits for the last
    waits_last : All (IsWaitingFor (map present parents) v.class) path
    waits_last k d lt =
        subst (λ w. IsWaitingFor (map present parents) w.class (get_or path k d)) (get_or-append_seam path v [] d) (subst (IsWaitingFor (map present parents) (get_or (path ++ v ∷ []) (length path) d).class) (get_or-append path (v ∷ []) d k lt) (h.waiting k (length path) d lt (omega (arith, length-append path (v ∷ [])))))

    -- ---- the last visit has no parent left

    -- its class has the depth
    finished : (d : ℕ) → IsDepthBelow (map present parents) (present (parents_at parents v.class)) d → IsDepth (map present parents) v.class d
    finished d below =
        let same = parents_are v.class last_visit.within in
        record {
          under = ap (is_under_all (map present parents) (suc d)) same ∙ below.under;
          not_under = under_parents (map present parents) d v.class ∙ ap (is_under_all (map present parents) d) same ∙ below.not_under;
        }

    -- a class on the path is before the last visit, or is its class
    on_cases : (i : ℕ) → IsOn (path ++ v ∷ []) i → IsOn path i ⊎ (v.class ≡ i)
    on_cases i (u, c, e) = elim (Contains-append_cases path (v ∷ []) u c) [
      | inl l ↦ inl (u, l, e)
      | inr r ↦ elim (Contains-cons_cases v u [] r) [ inl f ↦ inr (ap (λ (w : Visit). w.class) f ∙ e) | inr l ↦ absurd (Contains-nil u l) ]
    ]

    pub search_finished : (t : Search) (e : ℕ) → IsDepthBelow (map present parents) (present (parents_at parents v.class)) e → t.depths.items ≡ set s.depths.items v.class (Some e) → t.is_seen.items ≡ s.is_seen.items → IsSearch parents t path
    search_finished t e below d f =
        let within : v.class < length s.depths.items = omega (arith, last_visit.within, h.depth_count) in
        let here : get_or t.depths.items v.class None ≡ Some e = ap (λ ds. get_or ds v.class None) d ∙ get_or-set_same s.depths.items v.class (Some e) None within in
        let same_count : length (set s.depths.items v.class (Some e)) ≡ length s.depths.items = simp length-set in
        let other : (i : ℕ) → i ≢ v.class → get_or t.depths.items i None ≡ get_or s.depths.items i None = λ i ne. ap (λ ds. get_or ds i None) d ∙ get_or-set_other s.depths.items v.class i (Some e) None ne in
        record {
          depth_count = ap length d ∙ same_count ∙ h.depth_count;
          seen_count = ap length f ∙ h.seen_count;
          known = λ i k g. elim (cases_eq i v.class) [
            | inl same ↦
                subst (IsDepth (map present parents) i) (same_Some e k (sym here ∙ ap (λ j. get_or t.depths.items j None) (sym same) ∙ g)) (subst (λ j. IsDepth (map present parents) j e) (sym same) (finished e below))
            | inr ne ↦ h.known i k (sym (other i ne) ∙ g)
          ];
          unknown = λ i seen g. elim (cases_eq i v.class) [
            | inl same ↦ absurd (let z : Some e ≡ None = sym here ∙ ap (λ j. get_or t.depths.items j None) (sym same) ∙ g in cc)
            | inr ne ↦ elim (h.unknown i (sym (ap (λ bs. get_or bs i false) f) ∙ seen) (sym (other i ne) ∙ g)) [
              | inl on ↦ elim (on_cases i on) [ inl before ↦ inl before | inr same ↦ absurd (ne (sym same)) ]
              | inr none ↦ inr none
            ]
          ];
          visits = prefix_visits;
          waiting = prefix_waiting;
        }

    -- ---- what the last visit comes to

    pub reached_depth : (d : ℕ) → HasDepthBelow (parents_at parents v.class) s.depths.items v (length (parents_at parents v.class)) d → IsDepthBelow (map present parents) (present (parents_at parents v.class)) d
    reached_depth d h' = subst (λ (l : List (Option ℕ)). IsDepthBelow (map present parents) (present l) d) (take_all (length (parents_at parents v.class)) (parents_at parents v.class) (omega arith)) (h' (map present parents) h.known last_visit.below)

    pub reached_visit : (w : Visit) (p : ℕ) → IsWaiting (parents_at parents v.class) s.depths.items v w p → IsVisit parents w
    reached_visit w p is =
        let same : parents_at parents v.class ≡ parents_at parents w.class = ap (parents_at parents) (sym is.class) in
        record {
          within = omega (arith, is.class, last_visit.within);
          passed = subst (λ (l : List (Option ℕ)). w.passed < length l) same is.within;
          below = subst (λ (l : List (Option ℕ)). IsDepthBelow (map present parents) (present (take w.passed l)) w.depth) same (is.below (map present parents) h.known last_visit.below);
        }

    pub reached_in : (r : Reached) → HasReached (parents_at parents v.class) s.depths.items v r → HasReachedIn parents s.depths.items v r
    reached_in (Depth d) is = reached_depth d is
    reached_in (Waiting w p) is = is

    pub reached_with : (list : ℕ) (r : Reached) → IsDepthBelow (map present parents) (present (interface_parents parents v.class)) list → HasReachedWith (parents_at parents v.class) s.depths.items list v r → HasReachedIn parents s.depths.items v r
    reached_with list (Depth d) below is = is (map present parents) h.known last_visit.below below
    reached_with list (Waiting w p) below is = is

    -- ---- the last visit goes on

    pub search_later : (w : Visit) (t : Search) (all : List Visit) → w.class ≡ v.class → IsVisit parents w → t.depths.items ≡ s.depths.items → t.is_seen.items ≡ s.is_seen.items → all ≡ path ++ w ∷ [] → IsSearch parents t all
    search_later w t all class is same seen grown =
        subst (IsSearch parents t) (sym grown) (record {
          depth_count = ap length same ∙ h.depth_count;
          seen_count = ap length seen ∙ h.seen_count;
          known = λ i k g. h.known i k (sym (ap (λ ds. get_or ds i None) same) ∙ g);
          unknown = λ i b g. elim (h.unknown i (sym (ap (λ bs. get_or bs i false) seen) ∙ b) (sym (ap (λ ds. get_or ds i None) same) ∙ g)) [
            | inl on ↦ inl (elim (on_cases i on) [
              | inl before ↦ (before.0, Contains-append_left path (w ∷ []) before.0 before.1, before.2)
              | inr here ↦ (w, Contains-append_right path (w ∷ []) w (Contains-first w []), class ∙ here)
            ])
            | inr none ↦ inr none
          ];
          visits = All-push (IsVisit parents) path w prefix_visits is;
          waiting = all_pairs_push (λ u x. IsWaitingFor (map present parents) x.class u) path w prefix_waiting (λ k e lt. subst (λ c. IsWaitingFor (map present parents) c (get_or path k e)) (sym class) (waits_last k e lt));
        })

    module _ (p k : ℕ) (few : k < length (parents_at parents v.class)) (next : get_or (parents_at parents v.class) k None ≡ Some p) where
      -- ---- the last visit waits for a parent

      is_parent : Contains (parents_of (map present parents) v.class) p
      is_parent = subst (λ ps. Contains ps p) (sym (parents_are v.class last_visit.within)) (present_has (parents_at parents v.class) k p few next)

      pub next_within : HaveParentsWithin (map present parents) → p < length parents
      next_within within = omega (arith, length-map parents present, parent_within (map present parents) within v.class p (omega (arith, last_visit.within, length-map parents present)) is_parent)

      waits_next : IsWaitingFor (map present parents) p v
      waits_next zero e = absurd cc
      waits_next (suc n) e = is_under-suc (map present parents) n p (list_all-member (is_under (map present parents) n) (parents_of (map present parents) v.class) p e is_parent)

      -- all wait for that parent, also where the last visit goes on
      pub all_wait_next : (w : Visit) → w.class ≡ v.class → All (IsWaitingFor (map present parents) p) (path ++ w ∷ [])
      all_wait_next w same = All-push (IsWaitingFor (map present parents) p) path w (λ k d lt n e. waits_next n (waits_last k d lt n e)) (λ n e. waits_next n (subst (λ c. is_under (map present parents) n c ≡ true) same e))

      -- ---- the parent has no depth, and was seen

      -- a class on the path that the last visit waits for makes a cycle
      cyclic : (n : ℕ) → (i : ℕ) → ((m : ℕ) → is_under (map present parents) m p ≡ true → is_under (map present parents) m v.class ≡ true) → is_under (map present parents) n v.class ≡ true → ⊥
      cyclic zero i back e = absurd cc
      cyclic (suc n) i back e = cyclic n i back (back n (list_all-member (is_under (map present parents) n) (parents_of (map present parents) v.class) p e is_parent))

      none_last : IsOn (path ++ v ∷ []) p ⊎ HasNone (map present parents) p → HasNone (map present parents) v.class
      none_last (inl on) n = false_from_ne_true (is_under (map present parents) n v.class) (cyclic n 0 (elim (on_cases p on) [
        | inl before ↦ λ m e. All-contains (IsWaitingFor (map present parents) v.class) path before.0 waits_last before.1 m (ap (is_under (map present parents) m) before.2 ∙ e)
        | inr same ↦ λ m e. ap (is_under (map present parents) m) same ∙ e
      ]))
      none_last (inr none) zero = refl
      none_last (inr none) (suc n) = list_all-fails (is_under (map present parents) n) (parents_of (map present parents) v.class) p is_parent (none n)

      pub search_cut : get_or s.is_seen.items p false ≡ true → get_or s.depths.items p None ≡ None → IsSearch parents s path
      search_cut seen known = record {
        depth_count = h.depth_count;
        seen_count = h.seen_count;
        known = h.known;
        unknown = λ i b g. elim (h.unknown i b g) [
          | inl on ↦ elim (on_cases i on) [
            | inl before ↦ inl before
            | inr same ↦ inr (subst (HasNone (map present parents)) same (none_last (h.unknown p seen known)))
          ]
          | inr none ↦ inr none
        ];
        visits = prefix_visits;
        waiting = prefix_waiting;
      }

-- ---- the depths that are known

-- are less than the number of classes
pub known_below : (parents : List (List (Option ℕ))) (s : Search) (path : List Visit) → IsSearch parents s path → HaveParentsWithin (map present parents) → AreBelow (length s.depths.items) s.depths.items
known_below parents s path h within i d e = elim (cases_lt i (length s.depths.items)) [
  | inl lt ↦ omega (arith, depth_less (map present parents) within i d (omega (arith, lt, h.depth_count, length-map parents present)) (h.known i d e), h.depth_count, length-map parents present)
  | inr ge ↦ absurd (let n : None ≡ Some d = sym (get_or_past s.depths.items i None (omega (arith, ge))) ∙ e in cc)
]

-- are those of all classes once each was seen and no visit is left
pub all_depths : (parents : List (List (Option ℕ))) (s : Search) → IsSearch parents s [] → ((k : ℕ) → k < length parents → get_or s.is_seen.items k false ≡ true) → AreDepths (map present parents) s.depths.items
all_depths parents s h seen = record {
  count = h.depth_count ∙ sym (length-map parents present);
  is_depth = λ i lt. depth_or_none i (get_or s.depths.items i None) refl (omega (arith, lt, length-map parents present));
} where
  depth_or_none : (i : ℕ) (o : Option ℕ) → get_or s.depths.items i None ≡ o → i < length parents → IsDepthOrNone (map present parents) i (get_or s.depths.items i None)
  depth_or_none i (Some d) e lt = subst (IsDepthOrNone (map present parents) i) (sym e) (h.known i d e)
  depth_or_none i None e lt = subst (IsDepthOrNone (map present parents) i) (sym e) (elim (h.unknown i (seen i lt) e) [
    | inl on ↦ absurd (Contains-nil on.0 on.1)
    | inr none ↦ none
  ])

-- ---- a visit that has begun

pub begun_seen : (s t : Search) (i : ℕ) → IsBegun s i t → i < length s.is_seen.items → get_or t.is_seen.items i false ≡ true
begun_seen s t i b lt = ap (λ bs. get_or bs i false) b.seen ∙ get_or-set_same s.is_seen.items i true false lt

pub before_seen : (s t : Search) (i k : ℕ) → IsBegun s i t → k < i → get_or s.is_seen.items k false ≡ true → get_or t.is_seen.items k false ≡ true
before_seen s t i k b lt e = ap (λ bs. get_or bs k false) b.seen ∙ get_or-set_other s.is_seen.items i k true false (λ same. omega (arith, same, lt)) ∙ e
