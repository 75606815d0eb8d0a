-- Items whose bytes are kept where they are few.
use Rattle.std.specs.Prelude.{◌≡◌, ℕ, List, Option, Result, IfSome, OnOk, Some}
use Rattle.dexlayout.specs.Places.{EncodedItems, KeptItems}
use Rattle.dexlayout.specs.internal.Encoding.{encode_use}

-- they are at the places of these items, and if their bytes are kept, they are the bytes of these
pub record AreKept (items : EncodedItems) (p : KeptItems) : Type 0 where
  pub places_are : p.places ≡ items.places
  pub bytes_are : IfSome p.bytes (λ bytes. bytes ≡ items.bytes)

-- a use more, aligned to 4 bytes if it has an item
abbrev pub KeepsUse : {A E : Type 0} → Result A E → KeptItems → KeptItems → Option (List ℕ) → Type 0
KeepsUse result old new item =
    (items : EncodedItems) → AreKept items old → OnOk result (AreKept (encode_use 4 items item) new)

-- the bytes that were kept still are, or none are any more
abbrev pub IsKeptOrNot : Option (List ℕ) → Option (List ℕ) → Type 0
IsKeptOrNot old new = IfSome new (λ bytes. old ≡ Some bytes)
