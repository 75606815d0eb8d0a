-- Signs that pass a test, up to one that does not; and facts on all small numbers that are checked by counting them.
use Rattle.dexspec.proofs.Common.{◌≡◌, ℕ, zero, suc, ◌<◌, ◌&&◌, Bool, true, List, [], ◌∷◌, ◌++◌, get_or, drop, refl, sym, ap, subst, ◌∙◌, true≢false, AllByRecursion, inl, inr, arith, cases_eq, and_parts}
use Rattle.std.proofs.Common.{ap₂}
use Rattle.dexlisting.proofs.law.Reads.{begins, Ends}

-- ---- numbers below a bound

-- all numbers below a bound pass a test
abbrev pub all_below : (ℕ → Bool) → ℕ → Bool
all_below test zero = true
all_below test (suc n) = test n && all_below test n

-- so each of them does
pub passes_below : (test : ℕ → Bool) (n k : ℕ) → all_below test n ≡ true → k < n → test k ≡ true
passes_below test zero k all lt = absurd (omega arith)
passes_below test (suc n) k all lt = elim (cases_eq k n) [
  | inl same ↦ subst (λ j. test j ≡ true) (sym same) (and_parts (test n) (all_below test n) all).0
  | inr other ↦ passes_below test n k (and_parts (test n) (all_below test n) all).1 (omega (arith, other))
]

-- ---- signs that pass a test

-- each sign passes a test
abbrev pub Pass : (ℕ → Bool) → List ℕ → Type 0
Pass test a = AllByRecursion (λ u. test u ≡ true) a

-- equal lists have equal first signs
pub head_is : (u v : ℕ) (a b : List ℕ) → u ∷ a ≡ v ∷ b → u ≡ v
head_is u v a b e = ap (λ t. get_or t 0 u) e

-- and equal rests
pub tail_is : (u v : ℕ) (a b : List ℕ) → u ∷ a ≡ v ∷ b → a ≡ b
tail_is u v a b e = ap (λ t. drop 1 t) e

-- signs that pass, and what begins with none, are distinguished
pub same_span : (test : ℕ → Bool) (a b r s : List ℕ) → Pass test a → Pass test b → Ends test r → Ends test s → a ++ r ≡ b ++ s → (a ≡ b) × (r ≡ s)
same_span test [] [] r s pa pb fr fs e = (refl, e)
same_span test [] (v ∷ b) r s pa pb fr fs e = absurd (true≢false (sym pb.0 ∙ sym (ap (begins test) e) ∙ fr))
same_span test (u ∷ a) [] r s pa pb fr fs e = absurd (true≢false (sym pa.0 ∙ ap (begins test) e ∙ fs))
same_span test (u ∷ a) (v ∷ b) r s pa pb fr fs e =
    let p = same_span test a b r s pa.1 pb.1 fr fs (tail_is u v (a ++ r) (b ++ s) e) in
    (ap₂ ◌∷◌ (head_is u v (a ++ r) (b ++ s) e) p.0, p.1)
