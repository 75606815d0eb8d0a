-- Sets of a table that are moved, or remapped, one at a time.
use Rattle.dexval.proofs.Common.{◌≡◌, ℕ, zero, suc, ◌+◌, ◌<◌, ◌≤◌, List, [], ◌∷◌, length, map, get_or, set, refl, ap, sym, ◌∙◌, subst, arith, inl, inr, Option, Some, None, All, cases_lt, length-set, get_or_default, get_or-set_same, get_or-set_other, Maps, IsRemappedSet, set_at}
use Rattle.dexval.specs.KeptSets.{set_in, IsReady}
use Rattle.dexval.specs.declared.kept_set.KeptSet.{KeptSet}

-- ---- moved

-- a set is moved: the sets are the same
pub one_moved : (xs : List KeptSet) (i : ℕ) (x y : KeptSet) → x ≡ get_or xs i x → set_in y ≡ set_in x → map set_in (set xs i y) ≡ map set_in xs
one_moved [] i x y e same = refl
one_moved (z ∷ zs) zero x y e same = ap (λ s. s ∷ map set_in zs) (same ∙ ap set_in e)
one_moved (z ∷ zs) (suc i) x y e same = ap (λ ss. set_in z ∷ ss) (one_moved zs i x y e same)

-- the first i sets can be remapped
abbrev pub AreReady : Maps → ℕ → List KeptSet → Type 0
AreReady r i xs = (k : ℕ) (d : KeptSet) → k < i → k < length xs → IsReady r (get_or xs k d)

-- one more set can be remapped
pub one_ready : (r : Maps) (xs : List KeptSet) (i : ℕ) (y : KeptSet) → AreReady r i xs → IsReady r y → AreReady r (i + 1) (set xs i y)
one_ready r xs i y own is k d less inside = elim (cases_lt k i) [
  | inl before ↦ subst (IsReady r) (sym (get_or-set_other xs i k y d (λ same. omega (arith, same, before)))) (own k d before (omega (arith, inside, length-set xs i y)))
  | inr ge ↦
      let same : i ≡ k = omega (arith, ge, less) in
      subst (IsReady r) (sym (get_or-set_same xs i y d (omega (arith, inside, same, length-set xs i y))) ∙ ap (λ (n : ℕ). get_or (set xs i y) n d) same) is
]

-- ---- remapped

-- the first i sets are remapped, and the others are unchanged
pub record AreSettled (r : Maps) (i : ℕ) (old new : List KeptSet) : Type 0 where
  pub done : (k : ℕ) (d : KeptSet) → k < i → k < length old → IsRemappedSet r (set_in (get_or old k d)) (set_in (get_or new k d))
  pub rest : (k : ℕ) (d : KeptSet) → i ≤ k → get_or new k d ≡ get_or old k d
  pub size : length new ≡ length old

-- one more set
pub one_settled : (r : Maps) (old new : List KeptSet) (i : ℕ) (x y : KeptSet) → AreSettled r i old new → i < length old → x ≡ get_or new i x → IsRemappedSet r (set_in x) (set_in y) → AreSettled r (i + 1) old (set new i y)
one_settled r old new i x y h lt e is =
    record {
      done = λ k d less inside. elim (cases_lt k i) [
        | inl before ↦ subst (λ (z : KeptSet). IsRemappedSet r (set_in (get_or old k d)) (set_in z)) (sym (get_or-set_other new i k y d (λ same. omega (arith, same, before)))) (h.done k d before inside)
        | inr ge ↦
            let same : i ≡ k = omega (arith, ge, less) in
            let here : x ≡ get_or old k d = e ∙ h.rest i x (omega arith) ∙ get_or_default old i x d lt ∙ ap (λ (n : ℕ). get_or old n d) same in
            let there : y ≡ get_or (set new i y) k d = sym (get_or-set_same new i y d (omega (arith, h.size, lt))) ∙ ap (λ (n : ℕ). get_or (set new i y) n d) same in
            subst (λ (z : KeptSet). IsRemappedSet r (set_in z) (set_in (get_or (set new i y) k d))) here (subst (λ (z : KeptSet). IsRemappedSet r (set_in x) (set_in z)) there is)
      ];
      rest = λ k d le. get_or-set_other new i k y d (λ same. omega (arith, same, le)) ∙ h.rest k d (omega (arith, le));
      size = length-set new i y ∙ h.size;
    }

-- the next set can be remapped
pub next_is_ready : (r : Maps) (old new : List KeptSet) (i : ℕ) (x : KeptSet) → AreSettled r i old new → All (IsReady r) old → i < length old → x ≡ get_or new i x → IsReady r x
next_is_ready r old new i x h ready lt e = subst (IsReady r) (sym (e ∙ h.rest i x (omega arith))) (ready i x lt)

-- all of them, by their places
pub all_settled : (r : Maps) (old new : List KeptSet) (i : ℕ) → AreSettled r i old new → length old ≤ i → (place : Option ℕ) → IsRemappedSet r (set_at (map set_in old) place) (set_at (map set_in new) place)
all_settled r old new i h le None = ((λ places. refl), (λ none. refl))
all_settled r old new i h le (Some k) = at old new h.size k (λ d lt. h.done k d (omega (arith, lt, le)) lt)
  where
    at : (xs ys : List KeptSet) → length ys ≡ length xs → (k : ℕ) → ((d : KeptSet) → k < length xs → IsRemappedSet r (set_in (get_or xs k d)) (set_in (get_or ys k d))) → IsRemappedSet r (set_at (map set_in xs) (Some k)) (set_at (map set_in ys) (Some k))
    at [] [] size k each = ((λ places. refl), (λ none. refl))
    at (x ∷ xs) (y ∷ ys) size zero each = each x (omega arith)
    at (x ∷ xs) (y ∷ ys) size (suc k) each = at xs ys (omega (arith, size)) k (λ d lt. each d (omega (arith, lt)))
    at v w size k each = absurd (omega (arith, size))
