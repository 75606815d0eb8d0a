-- A number in groups of seven bits: a chain whose sum is the number, and the minimum number of groups.
use Rattle.dexspec.proofs.Common.{◌≡◌, ℕ, zero, suc, ◌+◌, ◌*◌, ◌/◌, ◌%◌, ◌^◌, ◌<◌, ◌≤◌, length, refl, ap, inl, inr, arith, pow-le-pow_right, cases_lt, lt-ltb, le-ltb}
use Rattle.dexspec.specs.{IsChain, sum_of_groups, groups, size_u}
use Rattle.dexspec.proofs.numbers.Chains.{chain_cons, sevens}

-- n groups are n bytes
pub length-groups : (n v : ℕ) → length (groups n v) ≡ n
length-groups (suc (suc n)) v = ap suc (length-groups (suc n) (v / 128))
length-groups _ v = refl

-- without its lowest group a number needs one group fewer
pub group_less : (n v : ℕ) → v < 2 ^ (7 * suc n) → v / 128 < 2 ^ (7 * n)
group_less n v lt = omega (arith, sevens n)

-- the groups of a number that fits them are a chain
chain_groups : (n v : ℕ) → v < 2 ^ (7 * suc n) → IsChain (groups (suc n) v)
chain_groups zero v lt = lt
chain_groups (suc n) v lt = chain_cons (128 + v % 128) (groups (suc n) (v / 128)) (omega arith) (chain_groups n (v / 128) (group_less (suc n) v lt))

-- their sum is the number
sum_of_groups-groups : (n v : ℕ) → v < 2 ^ (7 * suc n) → sum_of_groups (groups (suc n) v) ≡ v
sum_of_groups-groups zero v lt = omega arith
sum_of_groups-groups (suc n) v lt = omega (arith, sum_of_groups-groups n (v / 128) (group_less (suc n) v lt))

-- n groups encode each number that fits them
pub spelled_in : (v n : ℕ) → 0 < n → v < 2 ^ (7 * n) → IsChain (groups n v) × (sum_of_groups (groups n v) ≡ v)
spelled_in v zero some lt = absurd (omega arith)
spelled_in v (suc n) some lt = (chain_groups n v lt, sum_of_groups-groups n v lt)

-- n is the minimum number of groups for v
pub record HasSize (v n : ℕ) : Type 0 where
  pub some : 0 < n
  pub few : n ≤ 5
  pub holds : v < 2 ^ (7 * n)
  pub least : (m : ℕ) → 0 < m → v < 2 ^ (7 * m) → n ≤ m

-- a number that does not fit n groups needs more
least_by : (v n : ℕ) → 2 ^ (7 * n) ≤ v → (m : ℕ) → 0 < m → v < 2 ^ (7 * m) → suc n ≤ m
least_by v n le m some lt = elim (cases_lt n m) [
  | inl less ↦ less
  | inr more ↦ absurd (let wide : 7 * m ≤ 7 * n = omega arith in let grows : 2 ^ (7 * m) ≤ 2 ^ (7 * n) = pow-le-pow_right (omega arith) wide in omega arith)
]

-- the size of a number is its minimum number of groups
pub size_u_is : (v : ℕ) → v < 2 ^ 35 → HasSize v (size_u v)
size_u_is v lt =
    elim (cases_lt v 0x80) [
      | inl h1 ↦ rw (lt-ltb v 0x80 h1) (record { some = omega arith; few = omega arith; holds = h1; least = λ m some lt'. some })
      | inr g1 ↦ rw (le-ltb v 0x80 g1) (elim (cases_lt v 0x4000) [
        | inl h2 ↦ rw (lt-ltb v 0x4000 h2) (record { some = omega arith; few = omega arith; holds = h2; least = least_by v 1 g1 })
        | inr g2 ↦ rw (le-ltb v 0x4000 g2) (elim (cases_lt v 0x200000) [
          | inl h3 ↦ rw (lt-ltb v 0x200000 h3) (record { some = omega arith; few = omega arith; holds = h3; least = least_by v 2 g2 })
          | inr g3 ↦ rw (le-ltb v 0x200000 g3) (elim (cases_lt v 0x10000000) [
            | inl h4 ↦ rw (lt-ltb v 0x10000000 h4) (record { some = omega arith; few = omega arith; holds = h4; least = least_by v 3 g3 })
            | inr g4 ↦ rw (le-ltb v 0x10000000 g4) (record { some = omega arith; few = omega arith; holds = lt; least = least_by v 4 g4 })
          ])
        ])
      ])
    ]

-- from one to five groups, for any number
pub size_u_bounds : (v : ℕ) → (1 ≤ size_u v) × (size_u v ≤ 5)
size_u_bounds v =
    elim (cases_lt v 0x80) [
      | inl h1 ↦ rw (lt-ltb v 0x80 h1) (omega arith, omega arith)
      | inr g1 ↦ rw (le-ltb v 0x80 g1) (elim (cases_lt v 0x4000) [
        | inl h2 ↦ rw (lt-ltb v 0x4000 h2) (omega arith, omega arith)
        | inr g2 ↦ rw (le-ltb v 0x4000 g2) (elim (cases_lt v 0x200000) [
          | inl h3 ↦ rw (lt-ltb v 0x200000 h3) (omega arith, omega arith)
          | inr g3 ↦ rw (le-ltb v 0x200000 g3) (elim (cases_lt v 0x10000000) [
            | inl h4 ↦ rw (lt-ltb v 0x10000000 h4) (omega arith, omega arith)
            | inr g4 ↦ rw (le-ltb v 0x10000000 g4) (omega arith, omega arith)
          ])
        ])
      ])
    ]
