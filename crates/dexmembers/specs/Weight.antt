-- What the declarations of a class weigh.
use Rattle.std.specs.Prelude.{ℕ, ◌+◌, ◌++◌, sum_by}
use Rattle.dexspec.specs.Weight.{set_weight, field_weight, method_weight, static_values_weight}
use Rattle.dexspec.specs.Mentions.{Mentions}
use Rattle.dexmembers.specs.Numbered.{Members, AreKnownMembers, NumberedMembers, members_in}
use Rattle.dexpool.specs.Numberings.{AreRising}

-- a class without its row and its interfaces
abbrev pub members_weight : Members → ℕ
members_weight x =
    set_weight x.annotations + sum_by field_weight (x.static_fields ++ x.instance_fields)
    + sum_by method_weight (x.direct_methods ++ x.virtual_methods) + static_values_weight x.static_values

-- the weight of what the numbers denote
abbrev pub weight_in : Mentions → NumberedMembers → ℕ
weight_in m x = members_weight (members_in m x)

-- it holds of each numbering whose symbols rise, and in which the numbers are known
abbrev pub ForKnown : NumberedMembers → (Mentions → Type 0) → Type 0
ForKnown x P = (m : Mentions) → AreRising m → AreKnownMembers m x → P m
