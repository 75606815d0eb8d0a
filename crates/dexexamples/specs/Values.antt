-- Values, and bytes of values in more than their least widths.
use Rattle.std.specs.Prelude.{ℕ, List, [], ◌∷◌}
use Rattle.dexspec.specs.Values.{Value, ArrayValue, NullValue, NoValues, ThenValue}

-- an array of null
abbrev pub null_array : Value
null_array = ArrayValue (ThenValue NullValue NoValues)

-- minus one as a long of eight bytes
abbrev pub long_minus_one : List ℕ
long_minus_one = 0xe6 ∷ 0xff ∷ 0xff ∷ 0xff ∷ 0xff ∷ 0xff ∷ 0xff ∷ 0xff ∷ 0xff ∷ []

-- one as a double of eight bytes
abbrev pub double_one : List ℕ
double_one = 0xf1 ∷ 0x00 ∷ 0x00 ∷ 0x00 ∷ 0x00 ∷ 0x00 ∷ 0x00 ∷ 0xf0 ∷ 0x3f ∷ []
