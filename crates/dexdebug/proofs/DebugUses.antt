-- The symbols of a debug program, part by part, and what becomes of their numbers.
use Rattle.std.proofs.lemmas.List.Elements.{All-map}
use Rattle.dexdebug.proofs.Common.{get_or, ◌≡◌, ℕ, ◌+◌, List, [], ◌++◌, map, Option, Some, None, refl, sym, subst, arith, length-map, All, flat_map, All-head, Maps, Use, all_prefix, all_back, all_parts, all_map, Operation, StartLocal, StartLocalExtended, SetFile, NumberedDebug, HasPlace, FitsIndex, IsFormedOperation, IsFormedDebug, IsSpecial, number_uses, operation_uses, debug_uses, image_or_none, name_of, type_of, signature_of, with_numbers, renumbered_operation, renumbered_debug}
use Rattle.dexpool.specs.declared.symbols.SymbolKind.{SymbolKind}
use Rattle.dexpool.specs.declared.symbols.SymbolKind.TheVariants as kinds

-- what holds of the symbol of a number, if there is one
pub use_of : (P : Use → Type 0) (kind : SymbolKind) (i : Option ℕ) (n : ℕ) → All P (number_uses kind i) → i ≡ Some n → P (record { kind = kind; number = n })
use_of P kind None n all e = absurd cc
use_of P kind (Some k) n all e = let same : k ≡ n = cc in subst (λ (j : ℕ). P (record { kind = kind; number = j })) same (All-head P (record { kind = kind; number = k }) [] all)

-- the three parts of an operation's symbols
module _ (P : Use → Type 0) (op : Operation) (h : All P (operation_uses op)) where
  pub name_part : All P (number_uses kinds.Text (name_of op))
  name_part = all_prefix P (number_uses kinds.Text (name_of op)) (number_uses kinds.Typ (type_of op) ++ number_uses kinds.Text (signature_of op)) h

  others : All P (number_uses kinds.Typ (type_of op) ++ number_uses kinds.Text (signature_of op))
  others = all_back P (number_uses kinds.Text (name_of op)) (number_uses kinds.Typ (type_of op) ++ number_uses kinds.Text (signature_of op)) h

  pub type_part : All P (number_uses kinds.Typ (type_of op))
  type_part = all_prefix P (number_uses kinds.Typ (type_of op)) (number_uses kinds.Text (signature_of op)) others

  pub signature_part : All P (number_uses kinds.Text (signature_of op))
  signature_part = all_back P (number_uses kinds.Typ (type_of op)) (number_uses kinds.Text (signature_of op)) others

-- ---- other numbers

-- the image of a number is small
pub image_fits : (r : Maps) (kind : SymbolKind) (i : Option ℕ) → All (HasPlace r) (number_uses kind i) → FitsIndex (image_or_none r kind i)
image_fits r kind None all = omega arith
image_fits r kind (Some n) all = let place = use_of (HasPlace r) kind (Some n) n all refl in subst FitsIndex (sym place.1) place.2

formed_with : (op : Operation) (s t u : Option ℕ) → IsSpecial op → FitsIndex s → FitsIndex t → FitsIndex u → IsFormedOperation (with_numbers op s t u)
formed_with (StartLocal register name typ) s t u special hs ht hu = record { name_fits = hs; type_fits = ht; signature_fits = omega arith; is_special = special }
formed_with (StartLocalExtended register name typ signature) s t u special hs ht hu = record { name_fits = hs; type_fits = ht; signature_fits = hu; is_special = special }
formed_with (SetFile name) s t u special hs ht hu = record { name_fits = hs; type_fits = omega arith; signature_fits = omega arith; is_special = special }
formed_with _ s t u special hs ht hu = record { name_fits = omega arith; type_fits = omega arith; signature_fits = omega arith; is_special = special }

operation_formed : (r : Maps) (op : Operation) → All (HasPlace r) (operation_uses op) → IsFormedOperation op → IsFormedOperation (renumbered_operation r op)
operation_formed r op all is =
    formed_with op (image_or_none r kinds.Text (name_of op)) (image_or_none r kinds.Typ (type_of op)) (image_or_none r kinds.Text (signature_of op)) is.is_special
    (image_fits r kinds.Text (name_of op) (name_part (HasPlace r) op all))
    (image_fits r kinds.Typ (type_of op) (type_part (HasPlace r) op all))
    (image_fits r kinds.Text (signature_of op) (signature_part (HasPlace r) op all))

operations_formed : (r : Maps) (ops : List Operation) → All (HasPlace r) (flat_map operation_uses ops) → All IsFormedOperation ops → All IsFormedOperation (map (renumbered_operation r) ops)
operations_formed r ops all are =
    let each = all_parts (HasPlace r) operation_uses ops all in All-map IsFormedOperation (renumbered_operation r) ops (λ k d lt. operation_formed r (get_or ops k d) (each k d lt) (are k d lt))

-- a debug program whose numbers have small images keeps its form
pub debug_formed : (r : Maps) (d : NumberedDebug) → All (HasPlace r) (debug_uses d) → IsFormedDebug d → IsFormedDebug (renumbered_debug r d)
debug_formed r d all is =
    let names = all_prefix (HasPlace r) (flat_map (number_uses kinds.Text) d.parameter_names) (flat_map operation_uses d.operations) all in
    record {
      names_count = simp length-map is.names_count;
      names_fit = all_map (λ i. All (HasPlace r) (number_uses kinds.Text i)) FitsIndex (image_or_none r kinds.Text) d.parameter_names (image_fits r kinds.Text) (all_parts (HasPlace r) (number_uses kinds.Text) d.parameter_names names);
      operations_count = simp length-map is.operations_count;
      operations_fit = operations_formed r d.operations (all_back (HasPlace r) (flat_map (number_uses kinds.Text) d.parameter_names) (flat_map operation_uses d.operations) all) is.operations_fit;
    }
