-- Code items whose symbols are numbers: the symbols that occur, and what becomes of their numbers.
use Rattle.std.specs.Prelude.{◌≡◌, ℕ, ◌^◌, ◌<◌, List, ◌++◌, map, All, Some, IfSome, option_to_list}
use Rattle.std.specs.List.{flat_map}
use Rattle.std.specs.Option.{option_map, unwrap_or}
use Rattle.dexpool.specs.declared.symbols.SymbolKind.TheVariants as kinds
use Rattle.dexpool.specs.Numberings.{Maps, image_of}
use Rattle.dexpool.specs.Uses.{Use, IsMappedUse}
use Rattle.dexinsn.specs.Numbered.{FitPlaces, uses_of, renumbered}
use Rattle.dexinsn.specs.Numbered as pieces
use Rattle.dexdebug.specs.Debug.{IsFormedDebug, debug_uses, HasPlace, renumbered_debug}
use Rattle.dexcode.specs.declared.handlers.Catch.{Catch}
use Rattle.dexcode.specs.declared.tries.Try.{Try}
use Rattle.dexcode.specs.Numbered.{NumberedHandler, NumberedTry, NumberedItem, handlers_of, named}

-- ---- the symbols that occur

-- the type that is caught
abbrev pub catch_use : Catch → Use
catch_use c = record { kind = kinds.Typ; number = c.typ }

-- the types that are caught
abbrev pub handler_uses : NumberedHandler → List Use
handler_uses h = map catch_use h.catches

-- those of handlers that tries name
abbrev pub tries_uses : List NumberedTry → List Use
tries_uses ts = flat_map handler_uses (handlers_of ts)

-- those of pieces, of handlers that tries name, and of the debug program, in order
abbrev pub item_uses : NumberedItem → List Use
item_uses c = uses_of c.body.pieces ++ (tries_uses c.tries ++ flat_map debug_uses (option_to_list c.debug))

-- ---- places of numbers

-- the number has an image of 32 bits
abbrev pub HasTypePlace : Maps → Use → Type 0
HasTypePlace r u = (j : ℕ) × (image_of r u.kind u.number ≡ Some j) × (j < 2 ^ 32)

-- each number has an image that fits its place
pub record HasPlaces (r : Maps) (c : NumberedItem) : Type 0 where
  pub pieces_have : All (pieces.HasPlace r) c.body.pieces
  pub catches_have : All (HasTypePlace r) (tries_uses c.tries)
  pub debug_has : All (HasPlace r) (flat_map debug_uses (option_to_list c.debug))

-- each number has an image
pub record HasImages (r : Maps) (c : NumberedItem) : Type 0 where
  pub pieces_have : All (pieces.HasImage r) c.body.pieces
  pub catches_have : All (IsMappedUse r) (tries_uses c.tries)
  pub debug_has : All (IsMappedUse r) (flat_map debug_uses (option_to_list c.debug))

-- no two types have one image
abbrev pub AreTypesApart : Maps → Type 0
AreTypesApart r = (i j k : ℕ) → image_of r kinds.Typ i ≡ Some k → image_of r kinds.Typ j ≡ Some k → i ≡ j

-- each number fits its place now
pub record NumbersFit (c : NumberedItem) : Type 0 where
  pub pieces_fit : FitPlaces c.body.pieces
  pub types_fit : All (λ u. u.number < 2 ^ 32) (tries_uses c.tries)
  pub debug_fits : IfSome c.debug IsFormedDebug

-- ---- other numbers

-- the image of a type; a type without an image stays
abbrev pub remapped_type : Maps → ℕ → ℕ
remapped_type r n = unwrap_or (image_of r kinds.Typ n) n

-- the catch with the image of its type's number
abbrev pub renumbered_catch : Maps → Catch → Catch
renumbered_catch r c = record { typ = remapped_type r c.typ; addr = c.addr }

-- the handler with those of its types
abbrev pub renumbered_handler : Maps → NumberedHandler → NumberedHandler
renumbered_handler r h = record { catches = map (renumbered_catch r) h.catches; catch_all_addr = h.catch_all_addr }

-- the try with those of its handler
abbrev pub renumbered_try : Maps → NumberedTry → NumberedTry
renumbered_try r t =
    record { start_addr = t.start_addr; insn_count = t.insn_count; handler = renumbered_handler r t.handler }

-- the code with the images of its numbers
abbrev pub renumbered_item : Maps → NumberedItem → NumberedItem
renumbered_item r c =
    record {
      body = renumbered r c.body;
      tries = map (renumbered_try r) c.tries;
      debug = option_map (renumbered_debug r) c.debug;
    }

-- ---- as they are stored

-- a try with its handler, which is in a list, remapped
abbrev pub remapped_try : Maps → List NumberedHandler → Try → NumberedTry
remapped_try r hs t = renumbered_try r (named hs t)
