-- The depth below the parents of a class, one parent after the other.
use Rattle.dexorder.proofs.Common.{◌≡◌, ℕ, zero, suc, ◌+◌, ◌-◌, ◌<◌, ◌≤◌, refl, max, List, [], ◌∷◌, ◌++◌, length, get_or, take, Option, None, Some, sym, subst, arith, append-nil, take_more, present, present-append}
use Rattle.dexorder.specs.declared.depths.Visit.{Visit}
use Rattle.dexorder.specs.internal.Searching.{IsDepthBelow, AreKnownDepths, FindsParentFrom, HasDepthBefore, HasDepthBelow}
use Rattle.dexorder.proofs.SearchLaws.{deeper_under, deeper_not_under}

module _ (parents depths : List (Option ℕ)) (v : Visit) (k depth d : ℕ) (lt : k < length parents) (h : HasDepthBelow parents depths v k depth) where
  -- the depth is that below the parents before it and this one, if it is a class
  one_more : ((classes : List (List ℕ)) → AreKnownDepths classes depths → IsDepthBelow classes (present (take k parents)) depth → IsDepthBelow classes (present (take k parents) ++ present (get_or parents k None ∷ [])) d) → HasDepthBelow parents depths v (k + 1) d
  one_more more classes known below =
      subst (λ (l : List (Option ℕ)). IsDepthBelow classes (present l) d) (sym (take_more parents k None lt))
      (subst (λ (l : List ℕ). IsDepthBelow classes l d) (sym (present-append (take k parents) (get_or parents k None ∷ []))) (more classes known (h classes known below)))

  pub passed_none : get_or parents k None ≡ None → d ≡ depth → HasDepthBelow parents depths v (k + 1) d
  passed_none none same = one_more (λ classes known below.
      subst (λ (o : Option ℕ). IsDepthBelow classes (present (take k parents) ++ present (o ∷ [])) d) (sym none)
      (subst (λ (l : List ℕ). IsDepthBelow classes l d) (sym (append-nil (present (take k parents)))) (subst (IsDepthBelow classes (present (take k parents))) (sym same) below)))

  pub passed_class : (p e : ℕ) → get_or parents k None ≡ Some p → get_or depths p None ≡ Some e → d ≡ max depth (suc e) → HasDepthBelow parents depths v (k + 1) d
  passed_class p e is at deeper = one_more (λ classes known below.
      subst (λ (o : Option ℕ). IsDepthBelow classes (present (take k parents) ++ present (o ∷ [])) d) (sym is) (record {
        under = deeper_under classes d depth e p (present (take k parents)) (omega (arith, deeper)) (omega (arith, deeper)) below.under (known p e at);
        not_under = deeper_not_under classes d depth e p (present (take k parents)) deeper below.not_under (known p e at);
      }))

module _ (parents depths : List (Option ℕ)) (v : Visit) (depth : ℕ) where
  gap : (k n : ℕ) → k + n ≤ length parents → ((j : ℕ) → k ≤ j → j < k + n → get_or parents j None ≡ None) → HasDepthBelow parents depths v k depth → HasDepthBelow parents depths v (k + n) depth
  gap k zero few none h =
      let at : k ≡ k + 0 = omega arith in
      subst (λ (m : ℕ). HasDepthBelow parents depths v m depth) at h
  gap k (suc n) few none h =
      let at : k + n + 1 ≡ k + suc n = omega arith in
      subst (λ (m : ℕ). HasDepthBelow parents depths v m depth) at
      (passed_none parents depths v (k + n) depth depth (omega (arith, few)) (gap k n (omega (arith, few)) (λ j from lt. none j from (omega (arith, lt))) h) (none (k + n) (omega arith) (omega arith)) refl)

  -- the depth is the same below parents that are no classes
  pub passed_gap : (k m : ℕ) → k ≤ m → m ≤ length parents → ((j : ℕ) → k ≤ j → j < m → get_or parents j None ≡ None) → HasDepthBelow parents depths v k depth → HasDepthBelow parents depths v m depth
  passed_gap k m later few none h =
      let at : k + (m - k) ≡ m = omega (arith, later) in
      subst (λ (j : ℕ). HasDepthBelow parents depths v j depth) at (gap k (m - k) (omega (arith, few, later)) (λ j from lt. none j from (omega (arith, lt, later))) h)

  -- so it is before the next parent that is a class
  pub passed_to : (k : ℕ) (next : Option (ℕ × ℕ)) → k ≤ length parents → v.passed ≤ k → FindsParentFrom parents k next → HasDepthBelow parents depths v k depth → HasDepthBefore parents depths v next depth
  passed_to k None few later none h = passed_gap k (length parents) few (omega arith) none h
  passed_to k (Some next) few later first h = (
    record { later = omega (arith, first.parent.later, later); within = first.parent.within; is = first.parent.is },
    passed_gap k next.0 first.parent.later (omega (arith, first.parent.within)) first.before h,
  )
