-- Members of a rising list with equal ranks are equal, and a property of members at their ranks holds at all places.
use Rattle.dexspec.proofs.Common.{◌≡◌, ℕ, ◌<◌, List, length, get_or, refl, sym, ap, ◌∙◌, subst, arith, Ordering, Greater, Contains, nat_cmp, IsTotalOrder, le-ltb, ne_eqb, Contains-get_or, lt-ltb, eq-eqb, Less, Equal}
use Rattle.dexspec.specs.{rank}
use Rattle.dexspec.proofs.lists.InOrder.{Rises, rank-place, rank-get_or}

-- a greater number is greater by order
-- numbers by their order
pub nat_less : (x y : ℕ) → x < y → nat_cmp x y ≡ Less
nat_less x y lt = rw (lt-ltb x y lt) refl

pub nat_tied : (x : ℕ) → nat_cmp x x ≡ Equal
nat_tied x = rw (le-ltb x x (omega arith), eq-eqb x x refl) refl

pub nat_more : (x y : ℕ) → y < x → nat_cmp x y ≡ Greater
nat_more x y lt = rw (le-ltb x y (omega arith), ne_eqb x y (omega arith)) refl

module _ {K : Type 0} (R : K → K → Ordering) (o : IsTotalOrder R) (xs : List K) (rising : Rises R xs) where
  -- members of equal ranks are equal
  pub rank_one : (s t : K) → Contains xs s → Contains xs t → rank R s xs ≡ rank R t xs → s ≡ t
  rank_one s t c d e =
      let p = rank-place R o xs s s rising c in
      let q = rank-place R o xs t s rising d in
      sym p.1 ∙ ap (λ i. get_or xs i s) e ∙ q.1

  -- a property of members at their ranks holds for members at their places
  pub at_places : (Row : ℕ → K → Type 0) → ((x : K) → Contains xs x → Row (rank R x xs) x) → (i : ℕ) (d : K) → i < length xs → Row i (get_or xs i d)
  at_places Row h i d lt = subst (λ k. Row k (get_or xs i d)) (rank-get_or R o xs i d rising lt) (h (get_or xs i d) (Contains-get_or xs i d lt))
