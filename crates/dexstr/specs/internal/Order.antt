-- The order of texts by their bytes.
use Rattle.std.specs.Prelude.{ℕ, ◌+◌, List, if◌then◌else◌, ◌==◌}
use Rattle.std.specs.Cmp.Lexicographic.{slice_cmp}
use Rattle.std.specs.Ordering.{nat_cmp}
use Rattle.std.specs.declared.cmp.Ordering.{Ordering}

-- where a byte comes in the order of texts: 0xc0 begins the spelling of unit 0 alone, so it comes first
abbrev pub place_of : ℕ → ℕ
place_of b = if b == 0xc0 then 0 else b + 1

abbrev pub byte_cmp : ℕ → ℕ → Ordering
byte_cmp a b = nat_cmp (place_of a) (place_of b)

-- the order of texts, by their bytes
abbrev pub bytes_cmp : List ℕ → List ℕ → Ordering
bytes_cmp xs ys = slice_cmp byte_cmp xs ys
