-- How much classes over a numbering come to, and the first cap that they exceed.
use Rattle.std.specs.Prelude.{ℕ, ◌+◌, nat_lt, Bool, not, if◌then◌else◌, List, length, sum_by, Option, Some, None}
use Rattle.std.specs.List.{flat_map, list_any}
use Rattle.dexspec.specs.Mentions.{Mentions}
use Rattle.dexspec.specs.Weight.{mentions_weight, body_weight}
use Rattle.dexspec.specs.Merging.{Caps}
use Rattle.dexmembers.specs.Fitting.{members_short_strings}
use Rattle.dexclass.specs.Numbered.{NumberedClass, definition_of}

-- what the classes weigh, with the symbols of the numbering
abbrev pub weight_over : Mentions → List NumberedClass → ℕ
weight_over m cs = 1024 + mentions_weight m + sum_by (λ c. body_weight (definition_of m c).1) cs

-- the numbers of the texts that a const-string of the classes names, not counting const-string/jumbo
abbrev pub short_numbers : List NumberedClass → List ℕ
short_numbers cs = flat_map (λ c. members_short_strings c.members) cs

-- whether one of the numbers is not below the cap
abbrev pub has_from : ℕ → List ℕ → Bool
has_from cap ns = list_any (λ n. not (nat_lt n cap)) ns

-- the first cap that is exceeded
abbrev pub first_over : Caps → Mentions → List NumberedClass → Option ℕ
first_over caps m cs =
    if nat_lt caps.types (length m.types) then Some 1
    else if nat_lt caps.protos (length m.protos) then Some 2
    else if nat_lt caps.fields (length m.fields) then Some 3
    else if nat_lt caps.methods (length m.methods) then Some 4
    else if has_from caps.short_strings (short_numbers cs) then Some 5
    else if nat_lt caps.weight (weight_over m cs) then Some 6
    else None
