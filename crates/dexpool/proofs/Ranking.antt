-- A rank found by halving: of numbers that pass a test and come first, the count is the rank.
use Rattle.dexpool.proofs.Common.{◌≡◌, ℕ, zero, suc, ◌+◌, ◌<◌, ◌≤◌, true, false, List, [], ◌∷◌, length, get_or, map, drop, min, add-one, refl, sym, ap, ◌∙◌, subst, arith, inl, inr, Ordering, Less, Equal, Greater, is_lt, nat_cmp, ordering_then, slice_cmp, IsTotalOrder, nat_cmp_is, cases_order, All, AllZip, All-nil, All-cons, rises, rank, less_is, rank-cons, Rises-from_rises, Rises-places, ComeFirst, PassBelow, IsAt}
use Rattle.std.proofs.Math.Seq.{drop-cons}

-- ---- the rank

module _ {X : Type 0} (R : X → X → Ordering) (o : IsTotalOrder R) (s : X) where
  -- of a rising list, those that are less come first
  pub lesser_first : (xs : List X) (d : X) → rises R xs ≡ true → ComeFirst (λ i. is_lt (R (get_or xs i d) s)) (length xs)
  lesser_first xs d rising i j before within less = ap is_lt (o.trans (get_or xs i d) (get_or xs j d) s (Rises-places R o xs i j d (Rises-from_rises R o xs rising) before within) (less_is (R (get_or xs j d) s) less))

  -- where the first k are less and no others, k is the rank
  pub rank_is : (xs : List X) (d : X) (k : ℕ) → k ≤ length xs → PassBelow (λ i. is_lt (R (get_or xs i d) s)) k (length xs) → k ≡ rank R s xs
  rank_is [] d k le p = omega arith
  rank_is (x ∷ xs) d zero le p =
      omega (arith, rank-cons R o s x xs false (p.failing 0 (omega arith) (omega arith)), rank_is xs d 0 (omega arith) (record { passing = λ i l. absurd (omega arith); failing = λ i l m. p.failing (suc i) (omega arith) (omega arith) }))
  rank_is (x ∷ xs) d (suc k) le p =
      omega (arith, rank-cons R o s x xs true (p.passing 0 (omega arith)), rank_is xs d k (omega arith) (record { passing = λ i l. p.passing (suc i) (omega arith); failing = λ i l m. p.failing (suc i) (omega arith) (omega arith) }))

  -- what halving finds in a rising list is the rank
  pub rank_by_halving : (xs : List X) (d : X) (k n : ℕ) → n ≡ length xs → k ≤ n → rises R xs ≡ true → (ComeFirst (λ i. is_lt (R (get_or xs i d) s)) n → PassBelow (λ i. is_lt (R (get_or xs i d) s)) k n) → k ≡ rank R s xs
  rank_by_halving xs d k n e le rising halved =
      rank_is xs d k (omega (arith, e, le)) (subst (PassBelow (λ i. is_lt (R (get_or xs i d) s)) k) e (halved (subst (ComeFirst (λ i. is_lt (R (get_or xs i d) s))) (sym e) (lesser_first xs d rising))))

-- ---- orders that decide one after the other

-- after a tie the next decides
pub after_tie : (a b : Ordering) → a ≡ Equal → ordering_then a b ≡ b
after_tie a b e = ap (λ c. ordering_then c b) e

-- what is no tie decides
pub decided : (a b : Ordering) → (a ≡ Equal → ⊥) → ordering_then a b ≡ a
decided Equal b h = absurd (h refl)
decided _ b h = refl

-- the first order decides
pub by_first : (r a b : Ordering) → r ≡ a → (r ≡ Equal → ⊥) → r ≡ ordering_then a b
by_first r a b e h = e ∙ sym (decided a b (λ z. h (e ∙ z)))

-- the first order ties, and the next decides
pub by_second : (r q a b : Ordering) → q ≡ a → q ≡ Equal → r ≡ b → r ≡ ordering_then a b
by_second r q a b e t f = f ∙ sym (after_tie a b (sym e ∙ t))

-- an order of the member at a number is one of what the number denotes
pub at_number : {X : Type 0} (R : X → X → Ordering) (xs : List X) (n : ℕ) (r : Ordering) (d x y t : X) → IsAt xs n x → r ≡ R (get_or xs n d) t → t ≡ y → r ≡ R x y
at_number R xs n r d x y t at e f = e ∙ ap (λ z. R z t) (at.is d) ∙ ap (R x) f

-- ---- lists of numbers against lists of texts

-- one more on both sides changes no order
nat_cmp-suc : (a b : ℕ) → nat_cmp (suc a) (suc b) ≡ nat_cmp a b
nat_cmp-suc a b = elim (cases_order a b) [
  | inl same ↦ sym (nat_cmp_is (suc a) (suc b) Equal (omega (arith, same))) ∙ nat_cmp_is a b Equal same
  | inr (inl lt) ↦ sym (nat_cmp_is (suc a) (suc b) Less (omega (arith, lt))) ∙ nat_cmp_is a b Less lt
  | inr (inr gt) ↦ sym (nat_cmp_is (suc a) (suc b) Greater (omega (arith, gt))) ∙ nat_cmp_is a b Greater gt
]

module _ {X : Type 0} (R : X → X → Ordering) (f : ℕ → X) where
  -- the two at a place decide, and then the others
  pub cmp_at : (ns : List ℕ) (ts : List X) (i : ℕ) (t : X) → i < length ns → i < length ts → slice_cmp R (map f (drop i ns)) (drop i ts) ≡ ordering_then (R (f (get_or ns i 0)) (get_or ts i t)) (slice_cmp R (map f (drop (i + 1) ns)) (drop (i + 1) ts))
  cmp_at ns ts i t lt less = rw (add-one, drop-cons ns i 0, drop-cons ts i t) refl

  -- where one of them ends, the longer one is greater
  pub cmp_ended : (ns : List ℕ) (ts : List X) (i : ℕ) → i ≡ min (length ns) (length ts) → nat_cmp (length ns) (length ts) ≡ slice_cmp R (map f (drop i ns)) (drop i ts)
  cmp_ended [] [] i e = let z : i ≡ 0 = omega arith in rw z refl
  cmp_ended [] (t ∷ ts) i e = let z : i ≡ 0 = omega arith in rw z (sym (nat_cmp_is 0 (suc (length ts)) Less (omega arith)))
  cmp_ended (n ∷ ns) [] i e = let z : i ≡ 0 = omega arith in rw z (sym (nat_cmp_is (suc (length ns)) 0 Greater (omega arith)))
  cmp_ended (n ∷ ns) (t ∷ ts) zero e = absurd (omega arith)
  cmp_ended (n ∷ ns) (t ∷ ts) (suc i) e = nat_cmp-suc (length ns) (length ts) ∙ cmp_ended ns ts i (omega arith)

-- what numbers denote is the members at these numbers
pub listed_at : {X : Type 0} (xs : List X) (d : X) (ns : List ℕ) (ts : List X) → AllZip (IsAt xs) ns ts → map (λ n. get_or xs n d) ns ≡ ts
listed_at xs d [] [] h = refl
listed_at xs d (n ∷ ns) (t ∷ ts) h = λ i. h.0.is d i ∷ listed_at xs d ns ts h.1 i
listed_at xs d _ _ h = absurd h

-- they are numbers of the list
pub listed_within : {X : Type 0} (xs : List X) (ns : List ℕ) (ts : List X) → AllZip (IsAt xs) ns ts → All (λ n. n < length xs) ns
listed_within xs [] [] h = All-nil (λ n. n < length xs)
listed_within xs (n ∷ ns) (t ∷ ts) h = All-cons (λ n. n < length xs) n ns h.0.within (listed_within xs ns ts h.1)
listed_within xs _ _ h = absurd h
