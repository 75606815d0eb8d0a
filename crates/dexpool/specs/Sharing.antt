-- Items that several owners have in common memory, and their images.
use Rattle.dexpool.specs.Numberings.{Maps}
use Rattle.dexpool.specs.declared.sharing.SharedItem.{SharedItem}
use Rattle.dexpool.specs.declared.sharing.Image.{Image}

-- the item that several owners have
abbrev pub shared_in : {T Item : Type 0} → (T → Item) → SharedItem T → Item
shared_in of shared = of shared.memory.value.item

-- an item, and the item remapped
abbrev pub IsImage : {T Item : Type 0} → (T → Item) → (Maps → Item → Item → Type 0) → Maps → Image T → Type 0
IsImage of remaps r image = remaps r (shared_in of image.before) (shared_in of image.after)
