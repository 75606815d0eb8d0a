-- Units of a text that are printed by their numbers. This project's rules.
use Rattle.std.specs.Prelude.{ℕ, ◌+◌, ◌/◌, ◌%◌, nat_lt, if◌then◌else◌, List, [], ◌∷◌}

-- the digit of a number's last four bits
abbrev pub hexadecimal_digit : ℕ → ℕ
hexadecimal_digit n = if nat_lt (n % 16) 10 then n % 16 + 48 else n % 16 + 87

-- a unit by its number, in four digits
abbrev pub escaped : ℕ → List ℕ
escaped unit =
    0x5c ∷ 0x75 ∷ hexadecimal_digit (unit / 4096) ∷ hexadecimal_digit (unit / 256) ∷ hexadecimal_digit (unit / 16)
    ∷ hexadecimal_digit unit ∷ []
