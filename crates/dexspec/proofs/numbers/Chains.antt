-- Chains of bytes, each but the last with its top bit set, and the sums of their groups.
use Rattle.dexspec.proofs.Common.{◌≡◌, ℕ, zero, suc, ◌+◌, ◌*◌, ◌^◌, ◌<◌, ◌≤◌, List, [], ◌∷◌, length, take, All, refl, arith, All-get_or, pow-le-pow_right, pow-add}
use Rattle.dexspec.specs.{IsChain, sum_of_groups, last_of}

-- a chain has a byte
pub chain_some : (bytes : List ℕ) → IsChain bytes → 0 < length bytes
chain_some [] chain = absurd chain
chain_some (b ∷ bs) chain = omega arith

-- a byte with its top bit set before a chain makes a chain
pub chain_cons : (b : ℕ) (bs : List ℕ) → 128 ≤ b → IsChain bs → IsChain (b ∷ bs)
chain_cons b [] top chain = absurd chain
chain_cons b (c ∷ bs) top chain = (top, chain)

-- no chain is a proper prefix of another
pub chain_same : (l : List ℕ) (n m : ℕ) → IsChain (take n l) → IsChain (take m l) → n ≤ length l → m ≤ length l → n ≡ m
chain_same l (suc n) zero one other le le' = absurd other
chain_same (b ∷ bs) (suc zero) (suc zero) one other le le' = refl
chain_same (b ∷ []) (suc zero) (suc (suc m)) one other le le' = absurd (omega arith)
chain_same (b ∷ []) (suc (suc n)) (suc m) one other le le' = absurd (omega arith)
chain_same (b ∷ c ∷ bs) (suc zero) (suc (suc m)) one other le le' = absurd (omega (arith, one, other.0))
chain_same (b ∷ c ∷ bs) (suc (suc n)) (suc zero) one other le le' = absurd (omega (arith, one.0, other))
chain_same (b ∷ c ∷ bs) (suc (suc n)) (suc (suc m)) one other le le' = omega (arith, chain_same (c ∷ bs) (suc n) (suc m) one.1 other.1 (omega arith) (omega arith))
chain_same _ _ _ one other le le' = absurd one

-- bytes that all have their top bits set begin with no chain
pub no_chain : (l : List ℕ) (n : ℕ) → n ≤ length l → All (λ byte. 128 ≤ byte) l → ¬ IsChain (take n l)
no_chain l zero le high chain = chain
no_chain [] (suc n) le high chain = chain
no_chain (b ∷ bs) (suc zero) le high chain = omega (arith, chain, All-get_or (λ byte. 128 ≤ byte) (b ∷ bs) 0 0 (omega arith) high)
no_chain (b ∷ []) (suc (suc n)) le high chain = omega arith
no_chain (b ∷ c ∷ bs) (suc (suc n)) le high chain = no_chain (c ∷ bs) (suc n) (omega arith) (λ k d lt. high (suc k) d (omega arith)) chain.1

-- the last byte of a chain has its top bit clear
pub last_of_chain : (bytes : List ℕ) → IsChain bytes → last_of bytes < 128
last_of_chain [] chain = absurd chain
last_of_chain (b ∷ []) chain = chain
last_of_chain (b ∷ c ∷ bs) chain = last_of_chain (c ∷ bs) chain.1

-- ---- sums

-- one more group has 128 times as many numbers
pub sevens : (n : ℕ) → 2 ^ (7 * suc n) ≡ 128 * 2 ^ (7 * n)
sevens n = let e : 7 * suc n ≡ 7 + 7 * n = omega arith in rw (e, pow-add) refl

-- a sum of n groups is below 2 ^ (7 * n)
pub sum_bound : (bytes : List ℕ) → sum_of_groups bytes < 2 ^ (7 * length bytes)
sum_bound [] = omega arith
sum_bound (b ∷ bs) = omega (arith, sevens (length bs), sum_bound bs)

-- five groups have 35 bits
pub pow_in_five : (n : ℕ) → n ≤ 5 → 2 ^ (7 * n) ≤ 2 ^ 35
pow_in_five n few = let le : 7 * n ≤ 35 = omega arith in pow-le-pow_right (omega arith) le

-- a sum of five groups or fewer is below 2 ^ 35
pub sum_in_five : (bytes : List ℕ) → length bytes ≤ 5 → sum_of_groups bytes < 2 ^ 35
sum_in_five bytes few = omega (arith, sum_bound bytes, pow_in_five (length bytes) few)
