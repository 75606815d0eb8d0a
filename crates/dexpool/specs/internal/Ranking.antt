-- Numbers that pass a test and come before those that do not.
use Rattle.std.specs.Prelude.{◌≡◌, ℕ, ◌<◌, ◌≤◌, Bool, true, false, List, map, slice_index_or}
use Rattle.std.specs.Ordering.{is_lt}
use Rattle.std.specs.declared.cmp.Ordering.{Ordering}
use Rattle.dexspec.specs.Texts.{Text}
use Rattle.dexspec.specs.Mentions.{Mentions}

-- of the numbers below n, those that pass come first
abbrev pub ComeFirst : (ℕ → Bool) → ℕ → Type 0
ComeFirst test n = (i j : ℕ) → i < j → j < n → test j ≡ true → test i ≡ true

-- of the numbers below n, those below k pass and no others
pub record PassBelow (test : ℕ → Bool) (k n : ℕ) : Type 0 where
  pub passing : (i : ℕ) → i < k → test i ≡ true
  pub failing : (i : ℕ) → k ≤ i → i < n → test i ≡ false

-- whatever test the comparisons of the numbers below n agree with, if those that pass come first, they are those below
-- k
abbrev pub CountsLess : (ℕ → Ordering → Type 0) → ℕ → ℕ → Type 0
CountsLess Compares n k =
    (test : ℕ → Bool) → ((i : ℕ) (o : Ordering) → i < n → Compares i o → is_lt o ≡ test i) → ComeFirst test n
    → PassBelow test k n

-- the types of these numbers
abbrev pub types_or : Mentions → List ℕ → Text → List Text
types_or m numbers d = map (λ n. slice_index_or m.types n d) numbers
