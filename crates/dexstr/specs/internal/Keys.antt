-- Keys of texts, by their first bytes.
use Rattle.std.specs.Prelude.{◌≡◌, ℕ, ◌+◌, ◌*◌, ◌/◌, ◌^◌, ◌<◌, List, [], ◌∷◌, take, slice_index, if◌then◌else◌, ◌==◌}
use Rattle.dexspec.specs.Texts.{Text, AreUnits, spelling}

-- the number that the first bytes are, the first of all in the bits from 56 on: 0xc0 and the bytes after it count as 0
abbrev pub leading_number : List ℕ → ℕ
leading_number [] = 0
leading_number (b ∷ bs) = if b == 0xc0 then 0 else b * 2 ^ 56 + leading_number bs / 256

-- the number that the first eight bytes are
pub record IsKeyOf (key : ℕ) (bytes : List ℕ) : Type 0 where
  pub is : key ≡ leading_number (take 8 bytes)
  pub small : (i : ℕ) → slice_index bytes i < 256

-- the number that the first eight bytes of the text are
pub record IsKeyed (key : ℕ) (s : Text) : Type 0 where
  pub units : AreUnits s
  pub key_of : IsKeyOf key (spelling s)
