-- The names from below that the proofs cite, re-exported from one place. Declares nothing.
pub use Rattle.std.proofs.Common.{All, Bool, List, None, Option, Some, [], ap, append_assoc, arith, drop, false, get_or, if◌then◌else◌, inl, inr, length, length-append, map, nat_lt, of_z, option_to_list, refl, rules, set, slice_set, subst, suc, sym, take, to_z, true, w32, zero, ℕ, ◌%◌, ◌*◌, ◌++◌, ◌+◌, ◌-◌, ◌<◌, ◌==◌, ◌^◌, ◌∙◌, ◌∷◌, ◌≡◌, ◌≢◌, ◌≤◌}
pub use Rattle.std.proofs.lemmas.Bool.{cases_eq, cases_lt, false_from_ne_true, lt-ltb}
pub use Rattle.std.proofs.lemmas.Grind.{common_steps}
pub use Rattle.std.proofs.lemmas.Int.{ints, to_z-of_z}
pub use Rattle.std.proofs.lemmas.List.{append-nil, drop-drop, drop-set-lt, get_or-drop, get_or-map, get_or-set_other, get_or-set_same, get_or_append_left, get_or_default, get_or_past, length-drop, length-map, length-set, map-append, map_more, take-append-le, take_all, take_more, take_more_set}
pub use Rattle.std.proofs.lemmas.List.Elements.{All-append, All-cons, All-contains, All-get_or, All-head, All-map, All-nil, All-push, All-tail, All-weaker, Contains-append_left, Contains-append_right, Contains-get_or}
pub use Rattle.std.proofs.lemmas.List.Sums.{sum_by-cons, sum_by_more}
pub use Rattle.std.proofs.lemmas.Result.{err_from_is_err_and}
pub use Rattle.std.proofs.lemmas.Simd.{map-map}
pub use Rattle.std.specs.Bool.{Decides, one_answer}
pub use Rattle.std.specs.List.{AllZip, Contains, FoldsTo, flat_map, list_any}
pub use Rattle.std.specs.Option.{IfSome, IsSome, option_map, option_map_or, unwrap_or}
pub use Rattle.std.specs.Prelude.{Err, IfErr, IfNone, IfOk, IsTrue, Ok, Result, nat_abs, pos, ℤ, ◌-ℤ◌, ◌↔◌}
pub use Rattle.dexdebug.proofs.DebugRuns.{one_after}
pub use Rattle.dexdebug.proofs.DebugSame.{same_at}
pub use Rattle.dexdebug.specs.Debug.{FitsIndex, HasPlace, IsFormedDebug, IsFormedOperation, NumberedDebug, debug_uses, name_of, number_uses, operation_uses, renumbered_debug, signature_of, type_of}
pub use Rattle.dexdebug.specs.DebugReading.{IsDebugAt, IsDebugFault}
pub use Rattle.dexdebug.specs.Meaning.{IsKnownDebug, debug_in}
pub use Rattle.dexio.proofs.Encoded.{given_all, given_more}
pub use Rattle.dexinsn.specs.Numbered.{Denote, Instruction, IsKnownPiece, NumberedCode, NumberedPiece, Payload, kind_in, numbered_units, piece_in, uses_of}
unfoldable pub use Rattle.dexinsn.specs.Numbered.{numbered_bytes}
pub use Rattle.dexinsn.specs.Reading.{ArePiecesAt, AreStartsAt}
pub use Rattle.dexpool.proofs.KeptNumbers.{are_marked, maps_within, marked_remapped}
pub use Rattle.dexpool.proofs.Parts.{all_back, all_map, all_of, all_parts, all_prefix}
pub use Rattle.dexpool.proofs.Visits.{one_each, visited_both}
pub use Rattle.dexpool.proofs.Weighing.{sum_by-mapped}
pub use Rattle.dexpool.specs.Laws.{MapsAll, RanksAreNumbers}
pub use Rattle.dexpool.specs.Numberings.{AllMapTo, AreMarksOf, AreRising, IsAt, IsNumbered, Maps, MapsTo, image, image_of, marked}
pub use Rattle.dexpool.specs.Orderly.{KeepOrder, MapsDown}
pub use Rattle.dexpool.specs.Pools.{ArePools, count_of}
pub use Rattle.dexpool.specs.Uses.{HasMark, IsMappedUse, IsMarkedUse, IsUseOf, Use, marks_of}
pub use Rattle.dexpool.specs.declared.faults.ItemFault.{ItemFault}
pub use Rattle.dexpool.specs.declared.faults.ItemFault.TheVariants.{Memory, Refused}
pub use Rattle.dexpool.specs.declared.marks.Marks.{Marks}
pub use Rattle.dexpool.specs.declared.symbols.SymbolKind.{SymbolKind}
pub use Rattle.dexspec.proofs.determined.OneNumber.{one_sleb128, one_uleb128}
pub use Rattle.dexspec.proofs.lists.Distinct.{distinct_has, distinct_mapped, distinct_more, distinct_once, insert_grows}
pub use Rattle.dexspec.proofs.lists.InOrder.{Rises-from_rises, in_order-has, rank-get_or}
pub use Rattle.dexspec.proofs.lists.Sequences.{one_sequence}
pub use Rattle.dexspec.proofs.merge.SymbolOrders.{field_exact, field_total, method_exact, method_total, proto_exact, proto_total, text_exact, text_total}
pub use Rattle.dexspec.proofs.numbers.ByteNumbers.{length-uint, length-ushort}
pub use Rattle.dexspec.specs.Bytes.{uint, uint_at, ushort}
unfoldable pub use Rattle.dexspec.specs.Bytes.{number_of, ushort_at}
pub use Rattle.dexspec.specs.Code.{Code, PiecesAt, RegistersAt, code_units, most_handlers}
pub use Rattle.dexspec.specs.Debug.{Debug, DebugAt}
pub use Rattle.dexspec.specs.Lists.{AreDistinct, BothOrNone, Item, Sequence, distinct, in_order, rank}
pub use Rattle.dexspec.specs.Mentions.{Mentions, closed, code_symbols, debug_symbols, fields_in, handler_symbols, methods_in, piece_symbols, protos_in, texts_in, types_in}
pub use Rattle.dexspec.specs.Numbers.{Sleb128At, Uleb128At, size_u, sleb128, uleb128}
pub use Rattle.dexspec.specs.Pieces.{Cut, Piece, index_pool, is_instruction_start, units_of}
pub use Rattle.dexspec.specs.Symbols.{FieldPool, FieldSymbol, MethodPool, MethodSymbol, Pool, ProtoPool, ProtoSymbol, StringPool, Symbol, TextSymbol, TypePool, TypeSymbol, field_cmp, method_cmp, pool_of, proto_cmp}
pub use Rattle.dexspec.specs.Texts.{Text, text_cmp}
pub use Rattle.dexspec.specs.Weight.{code_weight, debug_weight, tries_weight}
pub use Rattle.indexmap.specs.IndexSet.{insert_key}
pub use Rattle.dexcode.specs.{AreApart, AreApartFrom, AreNumbered, ArePlaces, AreStored, AreTypesApart, BeginsAt, CatchAllAt, CatchAt, CatchesRead, DenotesCode, HandlerAt, HasCodeOf, HasImages, HasPieces, HasPlaces, HasProgramOf, HasShortTypes, HasTypePlace, HaveTriesOf, IsCodeAt, IsCodeBeside, IsCodeFault, IsDebugOrNone, IsFormedHandler, IsHandler, IsKnownCode, IsKnownTry, IsListAt, IsNumberPut, IsProgramFault, IsStart, IsTriesFault, IsWhole, ListedTryAt, NumberedHandler, NumberedItem, NumberedTry, NumbersFit, TriesAt, TriesRead, TryAt, TryItemsAt, all_named, catch_meant, catch_use, code_in, gap_bytes, handler_count, handler_decides, handler_equiv, handler_meant, handler_uses, handlers_of, handlers_weight, item_uses, named, no_handler, numbered_catch_bytes, numbered_code_bytes, numbered_code_weight, numbered_handler_bytes, numbered_handler_off, numbered_head_bytes, numbered_list_bytes, numbered_table_bytes, numbered_tries_bytes, numbered_tries_weight, numbered_try_bytes, place_of, placed_try_bytes, remapped_try, remapped_type, renumbered_catch, renumbered_handler, renumbered_item, renumbered_try, same_handler, tries_uses, try_meant, unit_count}
unfoldable pub use Rattle.dexcode.specs.{numbered_item_bytes}
pub use Rattle.dexcode.specs.declared.handlers.Catch.{Catch}
pub use Rattle.dexcode.specs.declared.tries.Try.{Try}
pub use Rattle.dexcode.specs.internal.Extras.{ArePartsAt, IsDebugOf, debug_of, tries_of}
pub use Rattle.dexcode.specs.internal.NamedHandlers.{AreKnown, AreListed, HasHandler, HasList, HaveCatches, IsHandlerAt, IsPutAt}
pub use Rattle.dexcode.specs.internal.TriesReading.{NoTries}
