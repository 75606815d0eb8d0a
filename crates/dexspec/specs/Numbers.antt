-- LEB128: numbers as one to five bytes of seven bits each, the lowest group first. Source: "Dalvik Executable format",
-- "LEB128". This project's rules: an encoding may be longer than needed, and the exact value must be in the range of
-- its 32-bit type.
use Rattle.std.specs.Prelude.{◌≡◌, ℕ, zero, suc, negsuc, ℤ, pos, ◌-ℤ◌, ◌+◌, ◌-◌, ◌*◌, ◌%◌, ◌/◌, ◌^◌, ◌<◌, ◌≤◌, List, []}
use Rattle.std.specs.Prelude.{◌∷◌, length, take, drop, Option, Some, None, FitsSigned, if◌then◌else◌, nat_le, nat_lt}
use Rattle.std.specs.Int.{w32}

-- one byte or more, the top bit set in each but the last
abbrev pub IsChain : List ℕ → Type 0
IsChain [] = ⊥
IsChain (b ∷ []) = b < 128
IsChain (b ∷ c ∷ bs) = (128 ≤ b) × IsChain (c ∷ bs)

-- the sum of the groups of seven bits, the lowest first
abbrev pub sum_of_groups : List ℕ → ℕ
sum_of_groups [] = 0
sum_of_groups (b ∷ bs) = b % 128 + 128 * sum_of_groups bs

-- the last byte
abbrev pub last_of : List ℕ → ℕ
last_of [] = 0
last_of (b ∷ []) = b
last_of (b ∷ c ∷ bs) = last_of (c ∷ bs)

-- the sum, less 2 ^ (7 * n) if bit 6 of the last of n bytes is set
abbrev pub signed_sum : List ℕ → ℤ
signed_sum bytes =
    if nat_le 64 (last_of bytes) then pos (sum_of_groups bytes) -ℤ pos (2 ^ (7 * length bytes))
    else pos (sum_of_groups bytes)

-- one to five bytes that encode a number in range
pub record Spells {V : Type 0} (number : List ℕ → V) (InRange : V → Type 0) (bytes : List ℕ) (v : V) : Type 0 where
  pub chain : IsChain bytes
  pub few : length bytes ≤ 5
  pub value : number bytes ≡ v
  pub in_range : InRange v

-- the bytes encode the number as a uleb128
abbrev pub IsUleb128 : List ℕ → ℕ → Type 0
IsUleb128 = Spells sum_of_groups (λ v. v < 2 ^ 32)

-- the bytes encode the number as an sleb128
abbrev pub IsSleb128 : List ℕ → ℤ → Type 0
IsSleb128 = Spells signed_sum (FitsSigned w32)

-- the number plus one; no number, which is NO_INDEX, is 0
abbrev pub plus_one : Option ℕ → ℕ
plus_one None = 0
plus_one (Some n) = n + 1

-- the bytes encode the number, or none, as a uleb128p1
abbrev pub IsUleb128p1 : List ℕ → Option ℕ → Type 0
IsUleb128p1 bytes v = IsUleb128 bytes (plus_one v)

-- the first n bytes are an item that denotes v
pub record BeginsWith {V : Type 0} (Says : List ℕ → V → Type 0) (bytes : List ℕ) (v : V) (n : ℕ) : Type 0 where
  pub within : n ≤ length bytes
  pub spelled : Says (take n bytes) v

-- the number is at offset o of b, in n bytes
abbrev pub Uleb128At : List ℕ → ℕ → ℕ → ℕ → Type 0
Uleb128At b o v n = BeginsWith IsUleb128 (drop o b) v n

-- the same for an sleb128
abbrev pub Sleb128At : List ℕ → ℕ → ℤ → ℕ → Type 0
Sleb128At b o v n = BeginsWith IsSleb128 (drop o b) v n

-- the same for a uleb128p1
abbrev pub Uleb128p1At : List ℕ → ℕ → Option ℕ → ℕ → Type 0
Uleb128p1At b o v n = BeginsWith IsUleb128p1 (drop o b) v n

-- ---- the shortest encodings

-- v in n groups of seven bits, the lowest first, the top bit set in each byte but the last
abbrev pub groups : ℕ → ℕ → List ℕ
groups zero v = []
groups (suc zero) v = v ∷ []
groups (suc (suc n)) v = (128 + v % 128) ∷ groups (suc n) (v / 128)

-- the minimum number of groups for the number, at most five
abbrev pub size_u : ℕ → ℕ
size_u v =
    if nat_lt v 0x80 then 1
    else (if nat_lt v 0x4000 then 2 else (if nat_lt v 0x200000 then 3 else (if nat_lt v 0x10000000 then 4 else 5)))

-- the shortest uleb128 of the number
abbrev pub uleb128 : ℕ → List ℕ
uleb128 v = groups (size_u v) v

-- n and -n - 1 have as many bits as n, and one for the sign
abbrev pub magnitude : ℤ → ℕ
magnitude (pos n) = n
magnitude (negsuc n) = n

-- the minimum number of groups for the number and its sign
abbrev pub size_s : ℤ → ℕ
size_s v = size_u (2 * magnitude v)

-- the number in two's complement of n groups: if it is negative, 2 ^ (7 * n) is added
abbrev pub held_in : ℕ → ℤ → ℕ
held_in n (pos m) = m
held_in n (negsuc m) = 2 ^ (7 * n) - suc m

-- the shortest sleb128 of the number
abbrev pub sleb128 : ℤ → List ℕ
sleb128 v = groups (size_s v) (held_in (size_s v) v)

-- the shortest uleb128p1 of the number, or of none
abbrev pub uleb128p1 : Option ℕ → List ℕ
uleb128p1 v = uleb128 (plus_one v)
