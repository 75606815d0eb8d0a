-- Methods as they are stored, with the places of their code, and code with the places of its debug programs.
use Rattle.std.specs.Prelude.{◌≡◌, ℕ, ◌<◌, List, length, map, slice_get, All, Option, Some, None}
use Rattle.std.specs.List.{Contains}
use Rattle.dexcode.specs.Numbered.{NumberedItem, with_debug}
use Rattle.dexcode.specs.Renumbering.{HasPlaces, renumbered_item}
use Rattle.dexdebug.specs.Debug.{NumberedDebug}
use Rattle.dexpool.specs.declared.symbols.SymbolKind.TheVariants as kinds
use Rattle.dexpool.specs.Images.{IsMapped}
use Rattle.dexpool.specs.Numberings.{Maps}
use Rattle.dexval.specs.Renumbering.{remapped}
use Rattle.dexval.specs.Tables.{IsPlaceIn}
use Rattle.dexmembers.specs.Held.{HeldMethod}
use Rattle.dexmembers.specs.declared.code_list.StoredCode.{StoredCode}

-- A method as it is stored: its number, its access flags, and the places of its code, of its annotations and of those
-- of its parameters.
pub record StoredMethod : Type 0 where
  pub number : ℕ
  pub flags : ℕ
  pub code : Option ℕ
  pub set : Option ℕ
  pub list : Option ℕ

-- the item at a place, if there is one
abbrev pub item_at : {X : Type 0} → List X → Option ℕ → Option X
item_at xs None = None
item_at xs (Some i) = slice_get xs i

-- the method, with this code or none in its place
abbrev pub held_with : StoredMethod → Option NumberedItem → HeldMethod
held_with x code = record { number = x.number; flags = x.flags; code = code; set = x.set; list = x.list }

-- the method, with its code among these
abbrev pub held_in : List NumberedItem → StoredMethod → HeldMethod
held_in codes x = held_with x (item_at codes x.code)

-- the places of the methods' code
abbrev pub code_places : List StoredMethod → List (Option ℕ)
code_places xs = map (λ x. x.code) xs

-- each place is one of the items', and each item has one
pub record ArePlacesOf {X : Type 0} (xs : List X) (places : List (Option ℕ)) : Type 0 where
  pub held : All (IsPlaceIn xs) places
  pub named : (i : ℕ) → i < length xs → Contains places (Some i)

-- the method as it is stored, its number remapped
abbrev pub remapped_stored : Maps → StoredMethod → StoredMethod
remapped_stored r x =
    record { number = remapped r kinds.Method x.number; flags = x.flags; code = x.code; set = x.set; list = x.list }

-- the number of the method as it is stored maps to another
abbrev pub IsStoredMethodMapped : Maps → StoredMethod → Type 0
IsStoredMethodMapped r x = IsMapped r kinds.Method x.number

-- ---- code, with its debug programs beside it

-- the code with its debug program among these
abbrev pub code_with : List NumberedDebug → StoredCode NumberedItem → NumberedItem
code_with debugs x = with_debug x.code (item_at debugs x.debug)

-- all code of a list so
abbrev pub codes_with : List NumberedDebug → List (StoredCode NumberedItem) → List NumberedItem
codes_with debugs xs = map (code_with debugs) xs

-- the places of the debug programs of code
abbrev pub debug_places : List (StoredCode NumberedItem) → List (Option ℕ)
debug_places xs = map (λ x. x.debug) xs

-- the code has no debug program beside the one at its place
abbrev pub IsAlone : StoredCode NumberedItem → Type 0
IsAlone x = x.code.debug ≡ None

-- so is all code of a list, and its places are those of these debug programs
pub record AreStoredCodes (debugs : List NumberedDebug) (xs : List (StoredCode NumberedItem)) : Type 0 where
  pub alone : All IsAlone xs
  pub places : ArePlacesOf debugs (debug_places xs)

-- the code as it is stored, its numbers remapped
abbrev pub remapped_code : Maps → StoredCode NumberedItem → StoredCode NumberedItem
remapped_code r x = record { code = renumbered_item r x.code; debug = x.debug }

-- each number in the code as it is stored has an image that fits its place
abbrev pub IsStoredCodeMapped : Maps → StoredCode NumberedItem → Type 0
IsStoredCodeMapped r x = HasPlaces r x.code
