-- Items of a table have each an offset of their own, so that there are fewer than 2^32.
use Rattle.dexval.proofs.Common.{◌≡◌, ◌≢◌, ℕ, zero, suc, ◌+◌, ◌-◌, ◌<◌, ◌≤◌, ◌^◌, false, List, [], ◌∷◌, length, get_or, Option, Some, None, nat_eq, refl, sym, ap, subst, ◌∙◌, inl, inr, arith, ne_eqb, Contains, Contains-get_or, AreDistinct, Contains-nil, Contains-cons_cases, length-among, HaveOffsets}

-- ---- numbers below another

-- the numbers below n, the greatest first
below : ℕ → List ℕ
below zero = []
below (suc n) = n ∷ below n

length-below : (n : ℕ) → length (below n) ≡ n
unfolding below
length-below zero = refl
length-below (suc n) = omega (arith, length-below n)

at-below : (n i d : ℕ) → i < n → get_or (below n) i d ≡ n - suc i
unfolding below
at-below zero i d lt = absurd (omega (arith, lt))
at-below (suc n) zero d lt = omega arith
at-below (suc n) (suc i) d lt = omega (arith, at-below n i d (omega (arith, lt)))

-- distinct numbers below m are at most m
few_below : (m : ℕ) (xs : List ℕ) → AreDistinct xs → ((x : ℕ) → Contains xs x → x < m) → length xs ≤ m
few_below m xs distinct small = omega (arith, length-among xs (below m) distinct (λ x c. (m - suc x, omega (arith, (small x c), length-below m), omega (arith, (small x c), at-below m (m - suc x) x (omega (arith, (small x c)))))), length-below m)

-- a list without repeats, after a member that it does not have
distinct_more : (x : ℕ) (xs : List ℕ) → ((y : ℕ) → Contains xs y → x ≢ y) → AreDistinct xs → AreDistinct (x ∷ xs)
distinct_more x xs other rest i zero d lt le = absurd (omega (arith, lt))
distinct_more x xs other rest zero (suc j) d lt le = other (get_or xs j d) (Contains-get_or xs j d (omega (arith, le)))
distinct_more x xs other rest (suc i) (suc j) d lt le = rest i j d (omega (arith, lt)) (omega (arith, le))

-- ---- recorded items

-- no item is recorded yet
pub none_placed : (f : ℕ → Option ℕ) → HaveOffsets f 0
none_placed f = record {
  offsets = [];
  counted = refl;
  distinct = λ i j d lt le. absurd (omega (arith, le));
  small = λ off c. absurd (Contains-nil off c);
  recorded = λ off c. absurd (Contains-nil off c);
}

-- an offset at which none is recorded
module _ (f : ℕ → Option ℕ) (count off : ℕ) (placed : HaveOffsets f count) (fresh : f off ≡ None) (lt : off < 2 ^ 32) where
  apart : (o : ℕ) → Contains placed.offsets o → off ≢ o
  apart o c same = let r = placed.recorded o c in let e : None ≡ Some r.0 = sym fresh ∙ ap f same ∙ r.1 in cc

  distinct : AreDistinct (off ∷ placed.offsets)
  distinct = distinct_more off placed.offsets apart placed.distinct

  small : (o : ℕ) → Contains (off ∷ placed.offsets) o → o < 2 ^ 32
  small o c = elim (Contains-cons_cases off o placed.offsets c) [ inl same ↦ subst (λ n. n < 2 ^ 32) same lt | inr before ↦ placed.small o before ]

  pub fewer : count < 2 ^ 32
  fewer = omega (arith, few_below (2 ^ 32) (off ∷ placed.offsets) distinct small, placed.counted)

  -- with it one more is recorded
  pub one_placed : (g : ℕ → Option ℕ) (place more : ℕ) → g off ≡ Some place → ((o : ℕ) → nat_eq off o ≡ false → g o ≡ f o) → more ≡ count + 1 → HaveOffsets g more
  one_placed g place more here others is = record {
    offsets = off ∷ placed.offsets;
    counted = omega (arith, placed.counted, is);
    distinct = distinct;
    small = small;
    recorded = λ o c. elim (Contains-cons_cases off o placed.offsets c) [
      | inl same ↦ (place, subst (λ n. g n ≡ Some place) same here)
      | inr before ↦ let r = placed.recorded o before in (r.0, others o (ne_eqb off o (apart o before)) ∙ r.1)
    ];
  }
