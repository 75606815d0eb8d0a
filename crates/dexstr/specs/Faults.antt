-- When a string_data_item is not read, and why.
use Rattle.std.specs.Prelude.{◌≡◌, ◌≢◌, ◌⊎◌, ℕ, ◌^◌, ◌<◌, ◌≤◌, List, [], ◌∷◌, ◌++◌, length, drop, slice_index}
use Rattle.dexspec.specs.Numbers.{IsUleb128, BeginsWith}
use Rattle.dexleb.specs.Leb.{IsCutOff}
use Rattle.dexspec.specs.Texts.{form}
use Rattle.dexstr.specs.Units.{AfterUnits}
use Rattle.dexstr.specs.declared.reading.TextFault.{TextFault}
use Rattle.dexstr.specs.declared.reading.TextFault.TheVariants.{Short, Bad, Count}

-- what may follow in a text: the spelling of a unit, or the zero byte
abbrev pub IsPart : List ℕ → Type 0
IsPart bytes = (bytes ≡ 0 ∷ []) ⊎ ((u : ℕ) × (u < 2 ^ 16) × (bytes ≡ form u))

-- with one byte more or several they are such a part
pub record IsProperPrefix (bytes : List ℕ) : Type 0 where
  pub more : List ℕ
  pub some : 0 < length more
  pub part : IsPart (bytes ++ more)

abbrev pub StartsWithZero : List ℕ → Type 0
StartsWithZero bytes = (more : List ℕ) × (bytes ≡ 0 ∷ more)

-- the bytes begin with a count, then come some units, and of the rest P holds
pub record HasBody (P : ℕ → ℕ → List ℕ → Type 0) (bytes : List ℕ) : Type 0 where
  pub count : ℕ
  pub len : ℕ
  pub units : ℕ
  pub rest : List ℕ
  pub begins : BeginsWith IsUleb128 bytes count len
  pub after : AfterUnits (drop len bytes) units rest
  pub is : P count units rest

-- the count may go on after the bytes, or a unit or the zero byte may
abbrev pub IsShort : List ℕ → Type 0
IsShort bytes = IsCutOff bytes ⊎ HasBody (λ count units rest. IsProperPrefix rest) bytes

-- the bytes do not begin with a count, nor may one go on after them; or what follows the units begins neither a unit
-- nor the zero byte
abbrev pub IsBad : List ℕ → Type 0
IsBad bytes =
    ((¬ IsCutOff bytes) × ((v n : ℕ) → ¬ BeginsWith IsUleb128 bytes v n))
    ⊎ HasBody (λ count units rest. (¬ IsProperPrefix rest) × ¬ StartsWithZero rest) bytes

-- the zero byte follows other than as many units as the count says
abbrev pub IsMiscounted : List ℕ → Type 0
IsMiscounted bytes = HasBody (λ count units rest. StartsWithZero rest × (units ≢ count)) bytes

-- when each fault is returned
abbrev pub IsFault : TextFault → List ℕ → Type 0
IsFault Short = IsShort
IsFault Bad = IsBad
IsFault Count = IsMiscounted

-- ---- as the code tests it

-- a proper front by its bytes: nothing, or the first byte or two of a longer spelling
abbrev pub LooksCutOff : List ℕ → Type 0
LooksCutOff bytes = (length bytes ≡ 0)
    ⊎ (((length bytes ≡ 1)
    × ((slice_index bytes 0 ≡ 0xc0) ⊎ ((0xc2 ≤ slice_index bytes 0) × (slice_index bytes 0 ≤ 0xef))))
    ⊎ (((length bytes ≡ 2) × (slice_index bytes 0 ≡ 0xe0) × (0xa0 ≤ slice_index bytes 1) × (slice_index bytes 1 ≤ 0xbf))
    ⊎ ((length bytes ≡ 2) × (0xe1 ≤ slice_index bytes 0) × (slice_index bytes 0 ≤ 0xef) × (0x80 ≤ slice_index bytes 1)
    × (slice_index bytes 1 ≤ 0xbf))))
