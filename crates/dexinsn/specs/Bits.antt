-- Words of bits as lists of answers.
use Rattle.std.specs.Prelude.{ℕ, zero, suc, ◌+◌, ◌*◌, ◌/◌, ◌%◌, ◌==◌, Bool, List, [], ◌∷◌, length, slice_index}
use Rattle.std.specs.Int.{bit_at}

-- whether the bit of a unit is set
abbrev pub has_bit : List ℕ → ℕ → Bool
has_bit words k = bit_at (slice_index words (k / 64)) (k % 64) == 1

-- whether they are, of n units from one on
abbrev pub bits_from : ℕ → List ℕ → ℕ → List Bool
bits_from zero words k = []
bits_from (suc n) words k = has_bit words k ∷ bits_from n words (k + 1)

-- of all units for which the words have bits
unfoldable pub bits_in : List ℕ → List Bool
bits_in words = bits_from (64 * length words) words 0
