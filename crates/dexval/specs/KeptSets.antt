-- Sets of annotations, in whoever's memory they are.
use Rattle.dexval.specs.declared.kept_set.Holder.{Holder}
use Rattle.dexval.specs.declared.kept_set.Holder.TheVariants.{Own, Shared, Remapped}
use Rattle.dexval.specs.declared.kept_set.KeptSet.{KeptSet}
use Rattle.dexpool.specs.Numberings.{Maps}
use Rattle.dexval.specs.Code.{set_of}
use Rattle.dexval.specs.Numbered.{NumberedSet}
use Rattle.dexval.specs.Tables.{IsRemappedSet}

-- the set that a holder has
abbrev pub held_set : Holder → NumberedSet
held_set (Own set) = set_of set
held_set (Shared set) = set.value
held_set (Remapped set image) = set.value

-- the set
abbrev pub set_in : KeptSet → NumberedSet
set_in kept = held_set kept.holder

-- the holder can be remapped: it has the memory alone, or the set remapped beside the set
abbrev pub IsReadyHolder : Maps → Holder → Type 0
IsReadyHolder r (Own set) = Unit {0}
IsReadyHolder r (Shared set) = ⊥
IsReadyHolder r (Remapped set image) = IsRemappedSet r set.value image.value

-- the set can be remapped
abbrev pub IsReady : Maps → KeptSet → Type 0
IsReady r kept = IsReadyHolder r kept.holder
