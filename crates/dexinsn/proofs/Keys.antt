-- Whether the keys of a sparse switch rise, one key after the other.
use Rattle.dexinsn.proofs.Common.{◌≡◌, ℕ, zero, suc, ◌+◌, ◌<◌, ℤ, ◌<ℤ◌, ◌≤ℤ◌, Bool, true, false, ◌&&◌, List, ap, sym, ◌∙◌, arith, ints, int_cmp, is_lt, rises, int_in, ints_in}

-- whether n signed numbers of two units each, from unit i on, rise
abbrev pub do_rise : List ℕ → ℕ → ℕ → Bool
do_rise us i n = rises int_cmp (ints_in us i n)

is_lt-less : (a b : ℤ) → a <ℤ b → is_lt (int_cmp a b) ≡ true
is_lt-less a b less = grind (arith, ints)

is_lt-not : (a b : ℤ) → b ≤ℤ a → is_lt (int_cmp a b) ≡ false
is_lt-not a b le = grind (arith, ints)

step : (us : List ℕ) (i k : ℕ) (b : Bool) → is_lt (int_cmp (int_in us i) (int_in us (i + 2))) ≡ b → do_rise us i (suc (suc k)) ≡ (b && do_rise us (i + 2) (suc k))
step us i k b is = ap (λ (first : Bool). first && do_rise us (i + 2) (suc k)) is

compared : (us : List ℕ) (i : ℕ) (a b : ℤ) (answer : Bool) → a ≡ int_in us i → b ≡ int_in us (i + 2) → is_lt (int_cmp a b) ≡ answer → is_lt (int_cmp (int_in us i) (int_in us (i + 2))) ≡ answer
compared us i a b answer first second is = ap (λ (z : ℤ). is_lt (int_cmp z (int_in us (i + 2)))) (sym first) ∙ ap (λ (z : ℤ). is_lt (int_cmp a z)) (sym second) ∙ is

-- a key that is less than the next leaves it to the others
pub do_rise-less : (us : List ℕ) (i j n k : ℕ) (a b : ℤ) → n ≡ suc k → 0 < k → j ≡ i + 2 → a ≡ int_in us i → b ≡ int_in us (i + 2) → a <ℤ b → do_rise us i n ≡ do_rise us j k
do_rise-less us i j n zero a b is some next first second less = absurd (omega arith)
do_rise-less us i j n (suc k) a b is some next first second less = ap (do_rise us i) is ∙ step us i k true (compared us i a b true first second (is_lt-less a b less)) ∙ ap (λ (p : ℕ). do_rise us p (suc k)) (sym next)

pub do_rise-not : (us : List ℕ) (i n k : ℕ) (a b : ℤ) → n ≡ suc k → 0 < k → a ≡ int_in us i → b ≡ int_in us (i + 2) → b ≤ℤ a → do_rise us i n ≡ false
do_rise-not us i n zero a b is some first second le = absurd (omega arith)
do_rise-not us i n (suc k) a b is some first second le = ap (do_rise us i) is ∙ step us i k false (compared us i a b false first second (is_lt-not a b le))
