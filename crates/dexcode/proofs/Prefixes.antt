-- Items one after the other: those that were read are the first of any others at the same offset.
use Rattle.dexcode.proofs.Common.{◌≡◌, ℕ, ◌+◌, ◌<◌, ◌≤◌, List, [], ◌∷◌, ◌++◌, length, refl, ap, sym, ◌∙◌, subst, arith, length-append, Item, Sequence}

module _ {X : Type 0} (At : Item X) (one : (b : List ℕ) (o : ℕ) (x y : X) (n k : ℕ) → At b o x n → At b o y k → (x ≡ y) × (n ≡ k)) where
  -- the items that were read are a prefix of those that are there
  pub same_prefix : (b : List ℕ) (o : ℕ) (xs ys : List X) (n m : ℕ) → length xs ≤ length ys → Sequence At b o xs n → Sequence At b o ys m → (zs : List X) × (k : ℕ) × (ys ≡ xs ++ zs) × Sequence At b (o + n) zs k × (m ≡ n + k)
  same_prefix b o [] ys n m le h g = let place : o ≡ o + n = omega (arith, h) in (ys, m, refl, subst (λ (i : ℕ). Sequence At b i ys m) place g, omega (arith, h))
  same_prefix b o (x ∷ xs) [] n m le h g = absurd (omega arith)
  same_prefix b o (x ∷ xs) (y ∷ ys) n m le h g =
      let first = one b o x y h.0 g.0 h.2 g.2 in
      let rest = same_prefix b (o + h.0) xs ys h.1 g.1 (omega arith) h.3 (subst (λ (i : ℕ). Sequence At b (o + i) ys g.1) (sym first.1) g.3) in
      let place : o + h.0 + h.1 ≡ o + n = omega (arith, h.4) in (rest.0, rest.1, (λ i. sym first.0 i ∷ rest.2 i), subst (λ (i : ℕ). Sequence At b i rest.0 rest.1) place rest.3, omega (arith, h.4, g.4, first.1, rest.4))

  begins_none : (b : List ℕ) (o : ℕ) (zs : List X) (k : ℕ) → 0 < length zs → Sequence At b o zs k → ((x : X) (m : ℕ) → At b o x m → ⊥) → ⊥
  begins_none b o [] k lt h absent = omega (arith, lt)
  begins_none b o (z ∷ zs) k lt h absent = absent z h.0 h.2

  -- where no item follows, there are no more of them
  pub stuck : (b : List ℕ) (o : ℕ) (xs ys : List X) (n m : ℕ) → length xs < length ys → Sequence At b o xs n → ((x : X) (k : ℕ) → At b (o + n) x k → ⊥) → Sequence At b o ys m → ⊥
  stuck b o xs ys n m lt h absent g =
      let front = same_prefix b o xs ys n m (omega (arith, lt)) h g in begins_none b (o + n) front.0 front.1 (omega (arith, lt, ap length front.2 ∙ length-append xs front.0)) front.3 absent
