-- Numbers of fixed size, the bytes at an offset, and alignment. Source: "Dalvik Executable format",
-- "Overall file layout" (all numbers are little-endian).
use Rattle.std.specs.Prelude.{◌≡◌, ℕ, zero, suc, ℤ, pos, ◌-ℤ◌, ◌+◌, ◌-◌, ◌*◌, ◌/◌, ◌%◌, ◌^◌, List, [], ◌∷◌, length}
use Rattle.std.specs.Prelude.{take, drop, nat_lt, if◌then◌else◌, replicate}

-- the number that bytes encode, the lowest first
unfoldable pub number_of : List ℕ → ℕ
number_of [] = 0
number_of (b ∷ bs) = b + 256 * number_of bs

-- the lowest n bytes of a number, the lowest first
unfoldable pub bytes_of : ℕ → ℕ → List ℕ
bytes_of zero v = []
bytes_of (suc n) v = (v % 256) ∷ bytes_of n (v / 256)

-- a number of n bytes in two's complement: from half of 256 ^ n on it is negative
abbrev pub signed_in : ℕ → ℕ → ℤ
signed_in n v = if nat_lt (2 * v) (2 ^ (8 * n)) then pos v else pos v -ℤ pos (2 ^ (8 * n))

-- a number as two bytes
unfoldable pub ushort : ℕ → List ℕ
ushort n = bytes_of 2 n

-- a number as four bytes
unfoldable pub uint : ℕ → List ℕ
uint n = bytes_of 4 n

-- the number that the two bytes from o on encode
unfoldable pub ushort_at : List ℕ → ℕ → ℕ
ushort_at b o = number_of (take 2 (drop o b))

-- the number that the four bytes from o on encode
unfoldable pub uint_at : List ℕ → ℕ → ℕ
uint_at b o = number_of (take 4 (drop o b))

-- n numbers of two bytes each, from o on
abbrev pub ushorts_at : List ℕ → ℕ → ℕ → List ℕ
ushorts_at b o zero = []
ushorts_at b o (suc n) = ushort_at b o ∷ ushorts_at b (o + 2) n

-- n numbers of four bytes each, from o on
abbrev pub uints_at : List ℕ → ℕ → ℕ → List ℕ
uints_at b o zero = []
uints_at b o (suc n) = uint_at b o ∷ uints_at b (o + 4) n

-- the bytes x are at offset o of b
pub record BytesAt (b : List ℕ) (o : ℕ) (x : List ℕ) : Type 0 where
  pub here : take (length x) (drop o b) ≡ x

-- the least multiple of the alignment that is not less than the offset
abbrev pub round_up : ℕ → ℕ → ℕ
round_up align at = at + (align - at % align) % align

-- the zero bytes up to that multiple
abbrev pub padding : ℕ → ℕ → List ℕ
padding align at = replicate ((align - at % align) % align) 0
