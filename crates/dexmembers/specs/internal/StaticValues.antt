-- Static values as they are read: what the static fields of a class begin with.
use Rattle.std.specs.Prelude.{◌≡◌, ◌⊎◌, ℕ, ◌<◌, ◌≤◌, List, length, IfErr, IfOk, Result}
use Rattle.dexspec.specs.Lists.{OrNone}
use Rattle.dexspec.specs.Values.{Values, NoValues, count_values}
use Rattle.dexspec.specs.ClassData.{ClassData}
use Rattle.dexspec.specs.Classes.{StaticValuesAt, static_values_off}
use Rattle.dexspec.specs.Accepted.{Declares, HasValues}
use Rattle.dexspec.specs.Mentions.{Mentions}
use Rattle.dexspec.specs.Weight.{static_values_weight}
use Rattle.dexpool.specs.declared.faults.ItemFault.{ItemFault}
use Rattle.dexpool.specs.declared.faults.ItemFault.TheVariants.{Refused, Memory}
use Rattle.dexpool.specs.Pools.{ArePools}
use Rattle.dexval.specs.Numbered.{NumberedValues, AreKnown, values_in}
use Rattle.dexmembers.specs.StaticValues as held
use Rattle.dexmembers.specs.declared.static_values.StaticValues.{StaticValues}
use Rattle.dexmembers.specs.declared.row_reader.RowReader.{RowReader}
use Rattle.dexmembers.specs.internal.RowReaders.{IsFile}

-- class row r has these static values, or none, no more than `fields` of them
pub record HasValuesFor (b : List ℕ) (r fields : ℕ) (vs : Values) : Type 0 where
  pub at : OrNone StaticValuesAt NoValues b (static_values_off b r) vs
  pub few : count_values vs ≤ fields

-- those that the numbers denote, where they weigh no more than they may
pub record AreValuesOf (b : List ℕ) (r : ℕ) (m : Mentions) (fields most : ℕ) (xs : NumberedValues) : Type 0 where
  pub known : AreKnown m xs
  pub are : HasValuesFor b r fields (values_in m xs)
  pub light : static_values_weight (values_in m xs) ≤ most

-- There are no such values: condition 21 fails at the row if its class declares `fields` static fields. A failed
-- allocation says nothing.
abbrev pub IsValuesFault : List ℕ → ℕ → ℕ → ItemFault → Type 0
IsValuesFault b r fields Memory = Unit {0}
IsValuesFault b r fields (Refused number) =
    (number ≡ 21) × ((vs : Values) → HasValuesFor b r fields vs → ⊥)
    × ((d : ClassData) → Declares b r d → length d.static_fields ≡ fields → HasValues b r → ⊥)

-- so it is, or they are there and weigh more than they may: 23
abbrev pub IsValuesFaultWithin : List ℕ → ℕ → ℕ → ℕ → ItemFault → Type 0
IsValuesFaultWithin b r fields most Memory = Unit {0}
IsValuesFaultWithin b r fields most (Refused number) =
    IsValuesFault b r fields (Refused number)
    ⊎ ((number ≡ 23) × ((vs : Values) → HasValuesFor b r fields vs → most < static_values_weight vs))

-- ---- as they are read

-- the static values of the row that has the offset
abbrev pub ReadsValues : RowReader → ℕ → ℕ → Result StaticValues ItemFault → Type 0
ReadsValues reader off fields result = (r : ℕ) → off ≡ static_values_off reader.frame.now r → IsFile reader
    → IfOk result (λ values. AreValuesOf reader.frame.now r reader.pools.now fields reader.most (held.values_in values))

-- what is refused are the static values of the row that has the offset
abbrev pub RefusesValuesWithin : RowReader → ℕ → ℕ → Result StaticValues ItemFault → Type 0
RefusesValuesWithin reader off fields result =
    (r : ℕ) → off ≡ static_values_off reader.frame.now r → IsFile reader
    → IfErr result (IsValuesFaultWithin reader.frame.now r fields reader.most)

-- so they are where they are only checked
abbrev pub RefusesValues : {X : Type 0} → List ℕ → Mentions → ℕ → ℕ → Result X ItemFault → Type 0
RefusesValues b m off fields result =
    (r : ℕ) → off ≡ static_values_off b r → ArePools b m → IfErr result (IsValuesFault b r fields)
