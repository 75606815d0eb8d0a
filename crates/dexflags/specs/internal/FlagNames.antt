-- The text of flags, by the table of their named bits.
use Rattle.std.specs.Prelude.{ℕ, ◌≡◌, ◌==◌, ◌^◌, List, ◌++◌, map, codes, Bool, true, false, ◌∷◌, if◌then◌else◌, All}
use Rattle.std.specs.List.{filter, join_with_byte}
use Rattle.std.specs.Fmt.{digits}
use Rattle.std.specs.Char.{to_ascii_lowercase}
use Rattle.bitflags.specs.Sets.{Row}
use Rattle.dexflags.specs.Flags.{has_bit}

-- a byte of a constant's name as the text shows it: in lower case, with a hyphen for an underscore
abbrev pub shown_byte : ℕ → ℕ
shown_byte byte = if byte == 0x5f then 0x2d else to_ascii_lowercase byte

-- the name of a row as the text shows it
abbrev pub shown_name : Row → List ℕ
shown_name row = map shown_byte row.0

-- the names of the rows whose bits are set
abbrev pub set_names : List Row → ℕ → List (List ℕ)
set_names table flags = map shown_name (filter (λ row. has_bit flags row.1) table)

-- a name, after a comma unless it is the first
abbrev pub listed : Bool → List ℕ → List ℕ
listed true name = name
listed false name = 0x2c ∷ name

-- the number and the names of its bits in the table
abbrev pub table_text : List Row → ℕ → List ℕ
table_text table flags =
    codes "0x" ++ (digits 16 false flags ++ (codes "(" ++ (join_with_byte 0x2c (set_names table flags) ++ codes ")")))

-- a power of two
abbrev pub IsSingleBit : ℕ → Type 0
IsSingleBit bits = (k : ℕ) × (bits ≡ 2 ^ k)

-- each row has one bit
abbrev pub HasSingleBits : List Row → Type 0
HasSingleBits table = All (λ row. IsSingleBit row.1) table
