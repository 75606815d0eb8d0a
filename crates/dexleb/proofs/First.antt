-- The first number of a list of bytes: finds its groups one after the other.
use Rattle.std.proofs.Common.{◌≡◌, ℕ, zero, suc, ◌+◌, ◌*◌, ◌%◌, ◌^◌, ◌<◌, ◌≤◌, List, [], ◌∷◌, length, take, get_or, All, ◌⊎◌, inl, inr, arith, length-take, add-one}
use Rattle.std.proofs.Math.Pow.{shl_exact}
use Rattle.std.proofs.lemmas.List.{take-take}
use Rattle.dexspec.specs.Numbers.{IsChain, sum_of_groups}
use Rattle.dexspec.proofs.numbers.Chains.{chain_cons, no_chain, sevens, sum_in_five}
use Rattle.dexleb.specs.Leb.{IsFirst, HasNoFirst}

-- bytes with their top bits set, and one with its top bit clear, are a chain
chain_up_to : (l : List ℕ) (i : ℕ) → i < length l → All (λ byte. 128 ≤ byte) (take i l) → get_or l i 0 < 128 → IsChain (take (suc i) l)
chain_up_to [] i within high last = absurd (omega arith)
chain_up_to (b ∷ bs) zero within high last = last
chain_up_to (b ∷ bs) (suc i) within high last = chain_cons b (take (suc i) bs) (high 0 0 (omega arith)) (chain_up_to bs i (omega arith) (λ k d lt. high (suc k) d (omega arith)) last)

-- one more group adds its seven bits above the earlier ones
sum_up_to : (l : List ℕ) (i : ℕ) → i < length l → sum_of_groups (take (suc i) l) ≡ sum_of_groups (take i l) + get_or l i 0 % 128 * 2 ^ (7 * i)
sum_up_to [] i within = absurd (omega arith)
sum_up_to (b ∷ bs) zero within = omega arith
sum_up_to (b ∷ bs) (suc i) within = rw sevens (omega (arith, sum_up_to bs i (omega arith)))

-- the sum with one more group
pub sum_more : (l : List ℕ) (i sum low : ℕ) → i < length l → i < 5 → low ≡ get_or l i 0 % 128 → sum_of_groups (take i l) ≡ sum
    → sum_of_groups (take (i + 1) l) ≡ sum + low * 2 ^ (7 * i) % 2 ^ 64
sum_more l i sum low within few is so_far =
    let lt : low < 2 ^ 7 = omega arith in
    let exact : low * 2 ^ (7 * i) % 2 ^ 64 ≡ low * 2 ^ (7 * i) = shl_exact 7 (7 * i) 64 lt (omega arith) in
    rw (exact, add-one, is, ← so_far) (sum_up_to l i within)

-- the sum with one more group fits the machine number
pub sum_more_fits : (l : List ℕ) (i sum low : ℕ) → i < length l → i < 5 → low ≡ get_or l i 0 % 128 → sum_of_groups (take i l) ≡ sum
    → sum + low * 2 ^ (7 * i) % 2 ^ 64 < 2 ^ 64
sum_more_fits l i sum low within few is so_far =
    omega (arith, sum_more l i sum low within few is so_far, sum_in_five (take (i + 1) l) (omega (arith, length-take (i + 1) l)))

-- where a number ends
pub first_here : (l : List ℕ) (i sum low : ℕ) → i < length l → i < 5 → low ≡ get_or l i 0 % 128 → sum_of_groups (take i l) ≡ sum
    → All (λ byte. 128 ≤ byte) (take i l) → get_or l i 0 < 128 → IsFirst l (sum + low * 2 ^ (7 * i) % 2 ^ 64) (i + 1)
first_here l i sum low within few is so_far high last = record {
  within = omega arith;
  few = omega arith;
  chain = rw add-one (chain_up_to l i within high last);
  value = sum_more l i sum low within few is so_far;
}

-- if none of the first m bytes ends a number, no number ends
pub no_first : (l : List ℕ) (m : ℕ) → (5 ≤ m) ⊎ (length l ≤ m) → All (λ byte. 128 ≤ byte) (take m l) → HasNoFirst l
no_first l m long high n few le chain =
    let le_m : n ≤ m = elim long [ inl h ↦ omega arith | inr h ↦ omega arith ] in
    no_chain (take m l) n (omega (arith, length-take m l)) high (rw take-take chain)
