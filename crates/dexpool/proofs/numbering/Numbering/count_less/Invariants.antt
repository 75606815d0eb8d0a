use Rattle.dexpool.proofs.Common.{◌-◌, ◌≡◌, ◌<◌, ◌≤◌, ℕ, Bool, true, false, is_lt, ComeFirst, count_of}
use Rattle.dexpool.proofs.numbering.Numbering.count_less.Given as goal

abbrev pub invariant-loop-low : goal.invariant-loop-low
invariant-loop-low g l = record {
  ordered : l.low ≤ l.high;
  within : l.high ≤ count_of l.fn.kind l.fn.self;
  passing : (test : ℕ → Bool) → ((i : ℕ) (o : _) → i < count_of l.fn.kind l.fn.self → goal.F-post g l.compare i o → is_lt o ≡ test i) → ComeFirst test (count_of l.fn.kind l.fn.self) → (i : ℕ) → i < l.low → test i ≡ true;
  failing : (test : ℕ → Bool) → ((i : ℕ) (o : _) → i < count_of l.fn.kind l.fn.self → goal.F-post g l.compare i o → is_lt o ≡ test i) → ComeFirst test (count_of l.fn.kind l.fn.self) → (i : ℕ) → l.high ≤ i → i < count_of l.fn.kind l.fn.self → test i ≡ false;
}

abbrev pub decreases-loop-low : goal.decreases-loop-low
decreases-loop-low g l = l.high - l.low
