-- Members that are kept where they weigh no more than they may.
use Rattle.std.specs.Prelude.{◌≡◌, ℕ, ◌-◌, ◌^◌, ◌<◌, ◌≤◌, min, Result, Ok, Err}
use Rattle.dexspec.specs.Mentions.{Mentions}
use Rattle.dexpool.specs.Numberings.{AreRising}
use Rattle.dexpool.specs.declared.faults.ItemFault.{ItemFault}
use Rattle.dexpool.specs.declared.faults.ItemFault.TheVariants.{Refused}
use Rattle.dexmembers.specs.Numbered.{AreKnownMembers, NumberedMembers, members_in}
use Rattle.dexmembers.specs.Weighing.{codes_of, codes_weight}
use Rattle.dexmembers.specs.Weight.{members_weight}

-- the members of this weight with it, if they weigh no more than they may; 23 if they weigh more
abbrev pub AreWithin : NumberedMembers → ℕ → ℕ → Result (NumberedMembers × ℕ) ItemFault → Type 0
AreWithin x weight most (Ok y) = (y.0 ≡ x) × (y.1 ≡ weight) × (y.1 ≤ most)
AreWithin x weight most (Err fault) = (fault ≡ Refused 23) × (most < weight)

-- the members, whose code weighs `codes`, with their weight
abbrev pub IsWeighedWithin : NumberedMembers → ℕ → ℕ → Result (NumberedMembers × ℕ) ItemFault → Type 0
IsWeighedWithin x codes most result =
    (m : Mentions) → AreRising m → AreKnownMembers m x → codes ≡ min (2 ^ 64 - 1) (codes_weight (codes_of x))
    → AreWithin x (members_weight (members_in m x)) most result
