-- The depth below the superclass and the interfaces of a class, by that below the interfaces alone.
use Rattle.dexorder.proofs.Common.{◌≡◌, ℕ, zero, suc, ◌<◌, ◌⊎◌, false, max, List, [], ◌∷◌, length, get_or, take, drop, Option, None, Some, refl, sym, ap, ◌∙◌, subst, arith, inl, inr, map, Contains, Contains-nil, list_all-member, list_all-from_members, cases_Bool, both_ways, cases_lt, present, same_Some, Contains-cons_cases, Contains-first, Contains-later, length-take, length-set, cases_eq, get_or-set_same, get_or-set_other, set}
use Rattle.std.specs.Borrow.{Bor}
use Rattle.std.specs.Prelude.{IfSome}
use Rattle.dexspec.proofs.sharing.Sharing.{present_source, present_has}
use Rattle.std.proofs.lemmas.List.{get_or-take}
use Rattle.dexorder.specs.{is_under, IsDepth}
use Rattle.dexorder.specs.declared.list_depths.ListDepths.{ListDepths}
use Rattle.dexorder.specs.internal.Searching.{AreListDepths, HaveEqualParents, IsDepthBelow, interface_parents, is_under_all}
use Rattle.dexorder.proofs.DepthLaws.{is_under-later}
use Rattle.dexorder.proofs.SearchLaws.{deeper_under, deeper_not_under}

module _ (classes : List (List ℕ)) where
  -- more parents are no less deep
  not_less : (n : ℕ) (ps qs : List ℕ) → ((x : ℕ) → Contains ps x → Contains qs x) → is_under_all classes n ps ≡ false → is_under_all classes n qs ≡ false
  not_less zero ps qs among e = refl
  not_less (suc n) ps qs among e = elim (cases_Bool (is_under_all classes (suc n) qs)) [
    | inl t ↦ absurd (both_ways (is_under_all classes (suc n) ps) e (list_all-from_members (is_under classes n) ps (λ x c. list_all-member (is_under classes n) qs x t (among x c))))
    | inr f ↦ f
  ]

  -- the depth below parents that are among two lists, which are all among them, is the greater of the depths below these
  both : (ps qs all : List ℕ) (a b d : ℕ) → ((x : ℕ) → Contains ps x → Contains all x) → ((x : ℕ) → Contains qs x → Contains all x) → ((x : ℕ) → Contains all x → Contains ps x ⊎ Contains qs x) → d ≡ max a b → IsDepthBelow classes ps a → IsDepthBelow classes qs b → IsDepthBelow classes all d
  both ps qs all a b d left right either e h k = record {
    under = list_all-from_members (is_under classes d) all (λ x c. elim (either x c) [
      | inl l ↦ is_under-later classes a d x (omega (arith, e)) (list_all-member (is_under classes a) ps x h.under l)
      | inr r ↦ is_under-later classes b d x (omega (arith, e)) (list_all-member (is_under classes b) qs x k.under r)
    ]);
    not_under = elim (cases_lt a b) [
      | inl lt ↦ let at : b ≡ d = omega (arith, e, lt) in subst (λ n. is_under_all classes n all ≡ false) at (not_less b qs all right k.not_under)
      | inr ge ↦ let at : a ≡ d = omega (arith, e, ge) in subst (λ n. is_under_all classes n all ≡ false) at (not_less a ps all left h.not_under)
    ];
  }

  -- the depth below one class
  below_one : (p d : ℕ) → IsDepth classes p d → IsDepthBelow classes (p ∷ []) (suc d)
  below_one p d h = record {
    under = deeper_under classes (suc d) 0 d p [] (omega arith) (omega arith) refl h;
    not_under = deeper_not_under classes (suc d) 0 d p [] (omega arith) refl h;
  }

  -- ---- the first parent, and those after it

  -- the first is no class
  pub below_rest : (parents : List (Option ℕ)) (d : ℕ) → get_or parents 0 None ≡ None → IsDepthBelow classes (present (drop 1 parents)) d → IsDepthBelow classes (present parents) d
  below_rest [] d e h = h
  below_rest (None ∷ rest) d e h = h
  below_rest (Some p ∷ rest) d e h = absurd cc

  -- it is a class of this depth
  pub below_first : (parents : List (Option ℕ)) (p a b d : ℕ) → get_or parents 0 None ≡ Some p → IsDepth classes p a → d ≡ max b (suc a) → IsDepthBelow classes (present (drop 1 parents)) b → IsDepthBelow classes (present parents) d
  below_first [] p a b d e h m k = absurd cc
  below_first (None ∷ rest) p a b d e h m k = absurd cc
  below_first (Some q ∷ rest) p a b d e h m k =
      both (q ∷ []) (present rest) (q ∷ present rest) (suc a) b d
      (λ x c. elim (Contains-cons_cases q x [] c) [ inl same ↦ subst (Contains (q ∷ present rest)) same (Contains-first q (present rest)) | inr l ↦ absurd (Contains-nil x l) ])
      (λ x c. Contains-later q x (present rest) c)
      (λ x c. elim (Contains-cons_cases q x (present rest) c) [ inl same ↦ inl (subst (Contains (q ∷ [])) same (Contains-first q [])) | inr l ↦ inr l ])
      (omega (arith, m)) (below_one q a (subst (λ y. IsDepth classes y a) (sym (same_Some q p e)) h)) k

  -- no parent before them adds nothing
  pub below_none : (ps : List ℕ) (a b d : ℕ) → d ≡ max a b → IsDepthBelow classes [] a → IsDepthBelow classes ps b → IsDepthBelow classes ps d
  below_none ps a b d m h k = both [] ps ps a b d (λ x c. absurd (Contains-nil x c)) (λ x c. c) (λ x c. inr c) m h k

  -- ---- some of the first parents, and all after the first

  source : (parents : List (Option ℕ)) (x : ℕ) → Contains (present parents) x → (k : ℕ) × (k < length parents) × (get_or parents k None ≡ Some x)
  source parents x c = let s = present_source parents x c in (s.0, s.1, s.2)

  pub below_passed : (parents : List (Option ℕ)) (k a b d : ℕ) → 0 < k → d ≡ max a b → IsDepthBelow classes (present (take k parents)) a → IsDepthBelow classes (present (drop 1 parents)) b → IsDepthBelow classes (present parents) d
  below_passed [] k a b d some m h l = both [] [] [] a b d (λ x c. c) (λ x c. c) (λ x c. inl c) m (subst (λ (ps : List (Option ℕ)). IsDepthBelow classes (present ps) a) (none k) h) l where
    none : (k : ℕ) → take {A = Option ℕ} k [] ≡ []
    none zero = refl
    none (suc k) = refl
  below_passed (p ∷ rest) zero a b d some m h l = absurd (omega arith)
  below_passed (p ∷ rest) (suc j) a b d some m h l =
      both (present (p ∷ take j rest)) (present rest) (present (p ∷ rest)) a b d
      (λ x c. let s = source (p ∷ take j rest) x c in among x s.0 s.1 s.2)
      (λ x c. let s = source rest x c in present_has (p ∷ rest) (suc s.0) x (omega (arith, s.1)) s.2)
      (λ x c. let s = source (p ∷ rest) x c in apart x s.0 s.1 s.2)
      m h l where
        among : (x i : ℕ) → i < length (p ∷ take j rest) → get_or (p ∷ take j rest) i None ≡ Some x → Contains (present (p ∷ rest)) x
        among x zero lt e = present_has (p ∷ rest) 0 x (omega arith) e
        among x (suc i) lt e =
            let few = length-take j rest in
            present_has (p ∷ rest) (suc i) x (omega (arith, lt, few)) (sym (get_or-take j rest i None (omega (arith, lt, few))) ∙ e)

        apart : (x i : ℕ) → i < length (p ∷ rest) → get_or (p ∷ rest) i None ≡ Some x → Contains (present (p ∷ take j rest)) x ⊎ Contains (present rest) x
        apart x zero lt e = inl (present_has (p ∷ take j rest) 0 x (omega arith) e)
        apart x (suc i) lt e = inr (present_has rest i x (omega (arith, lt)) e)

-- ---- the depths that are known

module _ (parents : List (List (Option ℕ))) (l : ListDepths) (h : AreListDepths parents l) (class : ℕ) (few : class < length l.firsts.now) (within : class < length parents) where
  -- that of a class with the same interfaces
  pub known_depth : (d : ℕ) → get_or l.depths.items (get_or l.firsts.now class 0) None ≡ Some d → IsDepthBelow (map present parents) (present (interface_parents parents class)) d
  known_depth d e = subst (λ (ps : List (Option ℕ)). IsDepthBelow (map present parents) (present ps) d) (h.equal class few within) (h.known (get_or l.firsts.now class 0) d e)

-- if it is known
pub found_depth : (l : ListDepths) (class : ℕ) (o : Option ℕ) → class < length l.firsts.now → get_or l.depths.items (get_or l.firsts.now class 0) None ≡ o → IfSome o (λ d. (parents : List (List (Option ℕ))) → class < length parents → AreListDepths parents l → IsDepthBelow (map present parents) (present (interface_parents parents class)) d)
found_depth l class None few e = tt
found_depth l class (Some d) few e = λ parents within h. known_depth parents l h class few within d e

module _ (parents : List (List (Option ℕ))) (l : ListDepths) (h : AreListDepths parents l) (class : ℕ) (few : class < length l.firsts.now) (within : class < length parents) where
  -- one more is known
  pub known_more : (t : ListDepths) (d : ℕ) → get_or l.firsts.now class 0 < length parents → IsDepthBelow (map present parents) (present (interface_parents parents class)) d → t.firsts ≡ l.firsts → t.depths.items ≡ set l.depths.items (get_or l.firsts.now class 0) (Some d) → AreListDepths parents t
  known_more t d lt below same grown =
      let first = get_or l.firsts.now class 0 in
      let there : first < length l.depths.items = omega (arith, lt, h.count) in
      let count : length (set l.depths.items first (Some d)) ≡ length l.depths.items = simp length-set in
      record {
        count = ap length grown ∙ count ∙ h.count;
        equal = subst (λ (f : Bor (List ℕ)). HaveEqualParents parents f.now) (sym same) h.equal;
        known = λ i e is. elim (cases_eq i first) [
          | inl at ↦
              let own : Some d ≡ Some e = sym (get_or-set_same l.depths.items first (Some d) None there) ∙ ap (λ ds. get_or ds first None) (sym grown) ∙ ap (λ k. get_or t.depths.items k None) (sym at) ∙ is in
              subst (IsDepthBelow (map present parents) (present (interface_parents parents i))) (same_Some d e own)
              (subst (λ k. IsDepthBelow (map present parents) (present (interface_parents parents k)) d) (sym at) (subst (λ (ps : List (Option ℕ)). IsDepthBelow (map present parents) (present ps) d) (sym (h.equal class few within)) below))
          | inr ne ↦ h.known i e (sym (ap (λ ds. get_or ds i None) grown ∙ get_or-set_other l.depths.items first i (Some d) None ne) ∙ is)
        ];
      }
