-- The numbers in a code item have places where all numbers have images.
use Rattle.dexcode.proofs.Common.{◌≡◌, ℕ, ◌+◌, ◌<◌, ◌^◌, List, [], ◌++◌, Option, Some, None, subst, arith, All, flat_map, IfSome, All-nil, All-cons, All-append, Mentions, SymbolKind, count_of, MapsAll, Maps, image_of, AllMapTo, Use, IsMappedUse, uses_of, KeepOrder, MapsDown, NumberedDebug, FitsIndex, IsFormedOperation, IsFormedDebug, HasPlace, number_uses, operation_uses, debug_uses, name_of, type_of, signature_of, maps_within, all_of, all_prefix, all_map, Try, NumberedHandler, NumberedTry, NumberedItem, ◌∙◌, DenotesCode, IsFormedHandler, AreStored, all_named, catch_use, handler_uses, tries_uses, item_uses, HasTypePlace, HasPlaces, HasImages, NumbersFit}
use Rattle.dexspec.specs.Code as symbolic
use Rattle.dexpool.specs.declared.symbols.SymbolKind.TheVariants as kinds
use Rattle.dexinsn.specs.Numbered as pieces
use Rattle.dexinsn.proofs.Fits as insn_proofs
use Rattle.dexinsn.specs.Fitting.{ImagesFit, IsGreatest, MapsShort, short_strings}
use Rattle.dexdebug.specs.declared.debug_operation.Operation.{Operation}
use Rattle.dexcode.proofs.CodeMeanings.{symbols_in, parts_used}
use Rattle.dexpool.proofs.Numbers.{some_of}
use Rattle.dexcode.proofs.CodeUses.{optional_debug_uses, all_flat, pieces_part, tries_part, debugs_part}
use Rattle.dexpool.proofs.KeptTables.{all_both}
use Rattle.dexpool.proofs.MappingAll.{uses_mapped}

-- the numbers of the code have images if its symbols have
pub images_of_uses : (r : Maps) (c : NumberedItem) → All (IsMappedUse r) (item_uses c) → HasImages r c
images_of_uses r c all = record {
  pieces_have = insn_proofs.images_of_uses r c.body.pieces (pieces_part (IsMappedUse r) c all);
  catches_have = tries_part (IsMappedUse r) c all;
  debug_has = debugs_part (IsMappedUse r) c all;
}

-- so they have where all numbers have images
pub images_there : (m : Mentions) (r : Maps) (c : NumberedItem) (x : symbolic.Code) → MapsAll m r → DenotesCode m c x → HasImages r c
images_there m r c x maps_to h = images_of_uses r c (uses_mapped m r maps_to (item_uses c) (symbols_in m c) (parts_used m c h.known))

-- ---- a number whose image is that of a symbol has a place

module _ (m n : Mentions) (r : Maps) (l : AllMapTo m n r) (few : (kind : SymbolKind) → count_of kind n < 2 ^ 32) where
  type_place : (u : Use) → IsMappedUse r u → HasTypePlace r u
  type_place u some = let at = some_of (image_of r u.kind u.number) some in (at.0, at.1, omega (arith, maps_within m n r l u.kind u.number at.0 at.1, few u.kind))

  debug_place : (u : Use) → IsMappedUse r u → HasPlace r u
  debug_place u some = let at = some_of (image_of r u.kind u.number) some in (at.0, at.1, omega (arith, maps_within m n r l u.kind u.number at.0 at.1, few u.kind))

pub places_there : (m n : Mentions) (r : Maps) (c : NumberedItem) → AllMapTo m n r → ((kind : SymbolKind) → count_of kind n < 2 ^ 32) → All (pieces.HasPlace r) c.body.pieces → HasImages r c → HasPlaces r c
places_there m n r c l few fits images = record {
  pieces_have = fits;
  catches_have = all_of (IsMappedUse r) (HasTypePlace r) (tries_uses c.tries) (type_place m n r l few) images.catches_have;
  debug_has = all_of (IsMappedUse r) (HasPlace r) (optional_debug_uses c.debug) (debug_place m n r l few) images.debug_has;
}

pub uses_of_images : (r : Maps) (c : NumberedItem) → HasImages r c → All (IsMappedUse r) (item_uses c)
uses_of_images r c h =
    All-append (IsMappedUse r) (uses_of c.body.pieces) (tries_uses c.tries ++ optional_debug_uses c.debug) (insn_proofs.uses_of_images r c.body.pieces h.pieces_have)
    (All-append (IsMappedUse r) (tries_uses c.tries) (optional_debug_uses c.debug) h.catches_have h.debug_has)

-- ---- numbers that fit, and have no greater images

-- the number has an encoding as a uleb128p1
abbrev IsSmall : Use → Type 0
IsSmall u = u.number + 1 < 2 ^ 32

small_number : (kind : SymbolKind) (i : Option ℕ) → FitsIndex i → All IsSmall (number_uses kind i)
small_number kind None fits = All-nil IsSmall
small_number kind (Some n) fits = All-cons IsSmall (record { kind = kind; number = n }) [] fits (All-nil IsSmall)

small_operation : (op : Operation) → IsFormedOperation op → All IsSmall (operation_uses op)
small_operation op formed =
    All-append IsSmall (number_uses kinds.Text (name_of op)) (number_uses kinds.Typ (type_of op) ++ number_uses kinds.Text (signature_of op)) (small_number kinds.Text (name_of op) formed.name_fits)
    (All-append IsSmall (number_uses kinds.Typ (type_of op)) (number_uses kinds.Text (signature_of op)) (small_number kinds.Typ (type_of op) formed.type_fits) (small_number kinds.Text (signature_of op) formed.signature_fits))

small_uses : (d : NumberedDebug) → IsFormedDebug d → All IsSmall (debug_uses d)
small_uses d formed =
    All-append IsSmall (flat_map (number_uses kinds.Text) d.parameter_names) (flat_map operation_uses d.operations)
    (all_flat FitsIndex IsSmall (number_uses kinds.Text) d.parameter_names (small_number kinds.Text) formed.names_fit)
    (all_flat IsFormedOperation IsSmall operation_uses d.operations small_operation formed.operations_fit)

pub debug_cut : (r : Maps) (d : NumberedDebug) → MapsDown r → IsFormedDebug d → All (IsMappedUse r) (debug_uses d) → All (HasPlace r) (debug_uses d)
debug_cut r d down formed images =
    all_both IsSmall (IsMappedUse r) (HasPlace r) (debug_uses d) (small_uses d formed) images (λ u small some. let at = some_of (image_of r u.kind u.number) some in (at.0, at.1, omega (arith, small, down u.kind u.number at.0 at.1)))

types_cut : (r : Maps) (us : List Use) → MapsDown r → All (λ u. u.number < 2 ^ 32) us → All (IsMappedUse r) us → All (HasTypePlace r) us
types_cut r us down fit images =
    all_both (λ u. u.number < 2 ^ 32) (IsMappedUse r) (HasTypePlace r) us fit images (λ u small some. let at = some_of (image_of r u.kind u.number) some in (at.0, at.1, omega (arith, small, down u.kind u.number at.0 at.1)))

optional_cut : (r : Maps) (o : Option NumberedDebug) → MapsDown r → IfSome o IsFormedDebug → All (IsMappedUse r) (optional_debug_uses o) → All (HasPlace r) (optional_debug_uses o)
optional_cut r None down formed images = All-nil (HasPlace r)
optional_cut r (Some d) down formed images = All-append (HasPlace r) (debug_uses d) [] (debug_cut r d down formed (all_prefix (IsMappedUse r) (debug_uses d) [] images)) (All-nil (HasPlace r))

pub code_cut : (r : Maps) (c : NumberedItem) → MapsDown r → NumbersFit c → All (IsMappedUse r) (item_uses c) → HasPlaces r c
code_cut r c down fit all = record {
  pieces_have = insn_proofs.places_after_cut r c.body.pieces down fit.pieces_fit (pieces_part (IsMappedUse r) c all);
  catches_have = types_cut r (tries_uses c.tries) down fit.types_fit (tries_part (IsMappedUse r) c all);
  debug_has = optional_cut r c.debug down fit.debug_fits (debugs_part (IsMappedUse r) c all);
}

-- ---- numbers with small images

image_small : (r : Maps) (k : SymbolKind) (i j : ℕ) → ImagesFit r → image_of r k i ≡ Some j → j + 1 < 2 ^ 32
image_small r kinds.Text i j fit e = fit.texts_fit i j e
image_small r kinds.Typ i j fit e = omega (arith, fit.types_fit i j e)
image_small r kinds.Proto i j fit e = omega (arith, fit.protos_fit i j e)
image_small r kinds.Field i j fit e = omega (arith, fit.fields_fit i j e)
image_small r kinds.Method i j fit e = omega (arith, fit.methods_fit i j e)

pub uses_joined : (r : Maps) (us : List Use) → ImagesFit r → All (IsMappedUse r) us → All (HasPlace r) us
uses_joined r us fit images = all_of (IsMappedUse r) (HasPlace r) us (λ u some. let at = some_of (image_of r u.kind u.number) some in (at.0, at.1, image_small r u.kind u.number at.0 fit at.1)) images

pub code_joined : (r : Maps) (c : NumberedItem) (greatest : Option ℕ) → KeepOrder r → ImagesFit r → IsGreatest (short_strings c.body.pieces) greatest → MapsShort r greatest → All (IsMappedUse r) (item_uses c) → HasPlaces r c
code_joined r c greatest order fit is short all = record {
  pieces_have = insn_proofs.places_after_join r c.body.pieces greatest order fit is short (pieces_part (IsMappedUse r) c all);
  catches_have = all_of (HasPlace r) (HasTypePlace r) (tries_uses c.tries) (λ u place. (place.0, place.1, omega (arith, place.2))) (uses_joined r (tries_uses c.tries) fit (tries_part (IsMappedUse r) c all));
  debug_has = uses_joined r (optional_debug_uses c.debug) fit (debugs_part (IsMappedUse r) c all);
}

-- ---- numbers as they are stored

handler_small : (h : NumberedHandler) → IsFormedHandler h → All (λ u. u.number < 2 ^ 32) (handler_uses h)
handler_small h formed = all_map (λ c. c.typ < 2 ^ 32) (λ u. u.number < 2 ^ 32) catch_use h.catches (λ c small. small) formed.types_fit

stored_small : (hs : List NumberedHandler) (ts : List Try) → AreStored hs ts → All (λ u. u.number < 2 ^ 32) (tries_uses (all_named hs ts))
stored_small hs ts stored = subst (λ ks. All (λ u. u.number < 2 ^ 32) (flat_map handler_uses ks)) stored.used (all_flat IsFormedHandler (λ u. u.number < 2 ^ 32) handler_uses hs handler_small stored.formed)

-- tries are those that are stored
pub tries_small : (hs : List NumberedHandler) (ts : List Try) (all whole : List NumberedTry) → AreStored hs ts → all_named hs ts ≡ all → all ≡ whole → All (λ u. u.number < 2 ^ 32) (tries_uses whole)
tries_small hs ts all whole stored named same = subst (λ ts. All (λ u. u.number < 2 ^ 32) (tries_uses ts)) (named ∙ same) (stored_small hs ts stored)
