-- A list has a least member that passes a test, or none; and lists without their repeats.
use Rattle.dexspec.proofs.Common.{◌≡◌, ◌≢◌, ◌⊎◌, zero, suc, List, [], ◌∷◌, refl, sym, ◌∙◌, subst, arith, inl, inr, Ordering, Less, Equal, Greater, Contains, IsTotalOrder, Contains-get_or}
use Rattle.dexspec.specs.{AreDistinct}
use Rattle.dexspec.proofs.lists.Members.{AreAmong, Contains-nil, Contains-first, Contains-later, Contains-cons_cases}
use Rattle.dexspec.proofs.lists.InOrder.{irreflexive}

module _ {X : Type 0} where
  -- some member passes, or none does
  pub some_or_none : (P : X → Type 0) (xs : List X) → ((x : X) → P x ⊎ (¬ (P x))) → ((x : X) × Contains xs x × P x) ⊎ ((x : X) → Contains xs x → P x → ⊥)
  some_or_none P [] decide = inr (λ x c p. Contains-nil x c)
  some_or_none P (y ∷ ys) decide = elim (decide y) [
    | inl p ↦ inl (y, Contains-first y ys, p)
    | inr never ↦ elim (some_or_none P ys decide) [
      | inl s ↦ inl (s.0, Contains-later y s.0 ys s.1, s.2)
      | inr none ↦ inr (λ x c p. elim (Contains-cons_cases y x ys c) [ inl e ↦ never (subst P (sym e) p) | inr l ↦ none x l p ])
    ]
  ]

  -- ---- a least member that passes

  -- a member passes, and no lesser one does
  pub record Least (R : X → X → Ordering) (P : X → Type 0) (xs : List X) : Type 0 where
    pub member : X
    pub within : Contains xs member
    pub passes : P member
    pub none_less : (y : X) → Contains xs y → P y → R y member ≡ Less → ⊥

  module _ (R : X → X → Ordering) (o : IsTotalOrder R) (P : X → Type 0) where
    -- a member that passes is at most the first, or the first is the least
    least_first : (x : X) (xs : List X) → P x → ((y : X) → Contains xs y → P y → R y x ≡ Less → ⊥) → Least R P (x ∷ xs)
    least_first x xs p none = record {
      member = x;
      within = Contains-first x xs;
      passes = p;
      none_less = λ y c q l. elim (Contains-cons_cases x y xs c) [ inl e ↦ irreflexive R o y x (sym e) l | inr m ↦ none y m q l ];
    }

    -- the least member of the rest is the least, if the first does not pass or is not less
    least_later : (x : X) (xs : List X) (l : Least R P xs) → (P x → R x l.member ≡ Less → ⊥) → Least R P (x ∷ xs)
    least_later x xs l never = record {
      member = l.member;
      within = Contains-later x l.member xs l.within;
      passes = l.passes;
      none_less = λ y c q less. elim (Contains-cons_cases x y xs c) [
        | inl e ↦ never (subst P (sym e) q) (subst (λ z. R z l.member ≡ Less) (sym e) less)
        | inr m ↦ l.none_less y m q less
      ];
    }

    -- if both pass, the order decides
    least_of_two : (x : X) (xs : List X) → P x → (l : Least R P xs) (r : Ordering) → R x l.member ≡ r → Least R P (x ∷ xs)
    least_of_two x xs p l Less e = least_first x xs p (λ y m q less. l.none_less y m q (o.trans y x l.member less e))
    least_of_two x xs p l Equal e = least_later x xs l (λ _ less. absurd (let t : Less ≡ Equal = sym less ∙ e in cc))
    least_of_two x xs p l Greater e = least_later x xs l (λ _ less. absurd (let t : Less ≡ Greater = sym less ∙ e in cc))

    -- a least member passes, or none does
    pub least_or_none : (xs : List X) → ((x : X) → P x ⊎ (¬ (P x))) → Least R P xs ⊎ ((x : X) → Contains xs x → P x → ⊥)
    least_or_none [] decide = inr (λ x c p. Contains-nil x c)
    least_or_none (y ∷ ys) decide = elim (decide y) [
      | inl p ↦ elim (least_or_none ys decide) [
        | inl l ↦ inl (least_of_two y ys p l (R y l.member) refl)
        | inr none ↦ inl (least_first y ys p (λ x m q less. none x m q))
      ]
      | inr never ↦ elim (least_or_none ys decide) [
        | inl l ↦ inl (least_later y ys l (λ p _. never p))
        | inr none ↦ inr (λ x c p. elim (Contains-cons_cases y x ys c) [ inl e ↦ never (subst P (sym e) p) | inr l ↦ none x l p ])
      ]
    ]

  -- ---- lists without their repeats

  -- one more member that is not in the list
  pub AreDistinct-cons : (x : X) (xs : List X) → (¬ (Contains xs x)) → AreDistinct xs → AreDistinct (x ∷ xs)
  AreDistinct-cons x xs never d zero (suc j) z lt le e = never (subst (Contains xs) (sym e) (Contains-get_or xs j z (omega arith)))
  AreDistinct-cons x xs never d (suc i) (suc j) z lt le e = d i j z (omega arith) (omega arith) e
  AreDistinct-cons x xs never d _ _ z lt le e = absurd (omega arith)

  -- a list of the same members, each once
  pub record Once (xs : List X) : Type 0 where
    pub once : List X
    pub distinct : AreDistinct once
    pub has : AreAmong xs once
    pub only : AreAmong once xs

  -- the first is added, if it is not in the list
  once_with : (x : X) (xs : List X) (o : Once xs) → ((y : X) × Contains o.once y × (y ≡ x)) ⊎ ((y : X) → Contains o.once y → y ≡ x → ⊥) → Once (x ∷ xs)
  once_with x xs o (inl s) = record {
    once = o.once;
    distinct = o.distinct;
    has = λ y c. elim (Contains-cons_cases x y xs c) [ inl e ↦ subst (Contains o.once) (s.2 ∙ e) s.1 | inr m ↦ o.has y m ];
    only = λ y c. Contains-later x y xs (o.only y c);
  }
  once_with x xs o (inr none) = record {
    once = x ∷ o.once;
    distinct = AreDistinct-cons x o.once (λ c. none x c refl) o.distinct;
    has = λ y c. elim (Contains-cons_cases x y xs c) [ inl e ↦ subst (Contains (x ∷ o.once)) e (Contains-first x o.once) | inr m ↦ Contains-later x y o.once (o.has y m) ];
    only = λ y c. elim (Contains-cons_cases x y o.once c) [ inl e ↦ subst (Contains (x ∷ xs)) e (Contains-first x xs) | inr m ↦ Contains-later x y xs (o.only y m) ];
  }

  -- if equality is decidable, each list has one
  pub once_of : ((x y : X) → (x ≡ y) ⊎ (x ≢ y)) → (xs : List X) → Once xs
  once_of same [] = record { once = []; distinct = λ i j z lt le e. omega (arith, lt, le); has = λ y c. c; only = λ y c. c }
  once_of same (x ∷ xs) = let o = once_of same xs in once_with x xs o (some_or_none (λ y. y ≡ x) o.once (λ y. same y x))
