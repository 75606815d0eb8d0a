-- The code of methods, in whoever's memory it is, and the methods.
use Rattle.std.specs.Prelude.{◌≡◌, List, MatchOption, Option, map}
use Rattle.dexcode.specs.Numbered.{NumberedItem}
use Rattle.dexcode.specs.Renumbering.{renumbered_item}
use Rattle.dexpool.specs.Numberings.{Maps}
use Rattle.dexmembers.specs.Held.{HeldMethod}
use Rattle.dexmembers.specs.internal.Stored.{ArePlacesOf, code_places, held_in}
use Rattle.dexmembers.specs.declared.held_codes.HeldCodes.{HeldCodes}
use Rattle.dexmembers.specs.declared.held_codes.HeldCodes.TheVariants.{Own, Shared}
use Rattle.dexmembers.specs.declared.method_list.MethodList.{MethodList}

-- the code
abbrev pub codes_in : HeldCodes → List NumberedItem
codes_in (Own codes) = codes
codes_in (Shared codes) = codes

-- one list of methods has its memory
abbrev pub IsOwn : HeldCodes → Type 0
IsOwn (Own codes) = Unit {0}
IsOwn (Shared codes) = ⊥

-- the code can be remapped: one list has its memory, or these are its images
abbrev pub AreReady : Maps → HeldCodes → Option (List NumberedItem) → Type 0
AreReady r x images = MatchOption images (IsOwn x) (λ images. images ≡ map (renumbered_item r) (codes_in x))

-- the methods, each with its code
abbrev pub methods_in : MethodList → List HeldMethod
methods_in x = map (held_in (codes_in x.code_items)) x.methods.items

-- the places of the methods' code are those of the list's, and each is some method's
abbrev pub AreCodesPlaced : MethodList → Type 0
AreCodesPlaced x = ArePlacesOf (codes_in x.code_items) (code_places x.methods.items)
