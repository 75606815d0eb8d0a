-- The units that bytes spell.
use Rattle.std.specs.Prelude.{◌≡◌, ◌≢◌, ℕ, ◌+◌, ◌*◌, ◌-◌, ◌^◌, ◌<◌, List, [], ◌∷◌, ◌++◌, length, if◌then◌else◌, nat_lt}
use Rattle.std.specs.Prelude.{All}
use Rattle.dexspec.specs.Texts.{Text, AreUnits, form, spelling}

-- the bytes begin with the spelling of a unit
pub record BeginsWithUnit (bytes : List ℕ) (u : ℕ) (rest : List ℕ) : Type 0 where
  pub unit : u < 2 ^ 16
  pub parts : bytes ≡ form u ++ rest

-- no unit's spelling begins here
abbrev pub BeginsWithNone : List ℕ → Type 0
BeginsWithNone bytes = (u : ℕ) (rest : List ℕ) → ¬ BeginsWithUnit bytes u rest

-- the bytes begin with none from 0x80 to 0xbf
abbrev pub IsNoTail : List ℕ → Type 0
IsNoTail [] = Unit {0}
IsNoTail (b ∷ bs) = (x : ℕ) → x < 64 → b ≢ 0x80 + x

-- the bytes begin with `n` units, and then no other
pub record AfterUnits (bytes : List ℕ) (n : ℕ) (rest : List ℕ) : Type 0 where
  pub us : Text
  pub len : length us ≡ n
  pub units : AreUnits us
  pub parts : bytes ≡ spelling us ++ rest
  pub none : BeginsWithNone rest

-- the units that bytes spell, of bytes that spell any
abbrev pub units_of : List ℕ → Text
units_of [] = []
units_of (a ∷ []) = a ∷ []
units_of (a ∷ b ∷ []) = if nat_lt a 0x80 then a ∷ units_of (b ∷ []) else (64 * (a - 0xc0) + (b - 0x80)) ∷ []
units_of (a ∷ b ∷ c ∷ bs) =
    if nat_lt a 0x80 then a ∷ units_of (b ∷ c ∷ bs)
    else (if nat_lt a 0xe0 then (64 * (a - 0xc0) + (b - 0x80)) ∷ units_of (c ∷ bs)
    else (4096 * (a - 0xe0) + 64 * (b - 0x80) + (c - 0x80)) ∷ units_of bs)

-- the bytes spell the units that they are read as
pub record IsSpelling (bytes : List ℕ) : Type 0 where
  pub parts : spelling (units_of bytes) ≡ bytes
  pub units : AreUnits (units_of bytes)

-- and these are as many as are counted, fewer than 2 ^ 32
pub record SpellsUnits (bytes : List ℕ) (count : ℕ) : Type 0 where
  pub spelled : IsSpelling bytes
  pub counted : length (units_of bytes) ≡ count
  pub few : count < 2 ^ 32

-- a unit that is spelled by the byte that it is
abbrev pub IsAscii : ℕ → Type 0
IsAscii u = (0 < u) × (u < 0x80)

-- the bytes begin with `n` units of ASCII
pub record BeginsWithAscii (n : ℕ) (bytes rest : List ℕ) : Type 0 where
  pub us : Text
  pub len : length us ≡ n
  pub ascii : All IsAscii us
  pub parts : bytes ≡ us ++ rest
