-- The names from below that the proofs cite, re-exported from one place. Declares nothing.
pub use Rattle.std.proofs.Common.{Bool, List, None, Option, Some, [], ap, append-nil, append_assoc, arith, drop, false, get_or, inl, inr, length, length-append, length-drop, length-take, map, nat_eq, ne_eqb, refl, rules, subst, suc, sum_by, sym, take, true, w32, zero, ℕ, ◌&&◌, ◌*◌, ◌++◌, ◌+◌, ◌-◌, ◌<◌, ◌==◌, ◌^◌, ◌↔◌, ◌∙◌, ◌∷◌, ◌≡◌, ◌≤◌}
pub use Rattle.std.proofs.lemmas.Bool.{cases_eq, le-ltb, lt-ltb}
pub use Rattle.std.proofs.lemmas.Grind.{flat_map-append}
pub use Rattle.std.proofs.lemmas.Int.{ints, to_z-of_z}
pub use Rattle.std.proofs.lemmas.List.{drop_at, drop_more, get_or-map, get_or_default, length-map, length-take-le, map-append, nil_from_length, take_all, take_at}
pub use Rattle.std.proofs.lemmas.List.Elements.{All-weaker, All-append, All-cons, All-head, All-nil, All-tail}
pub use Rattle.std.proofs.lemmas.List.Sums.{fold-append, sum_by-append, sum_by-cons, sum_by-le-sum_by}
pub use Rattle.std.specs.Cmp.Lexicographic.{pointwise, pointwise_decides}
pub use Rattle.std.specs.List.{All, AllZip, FoldsTo, flat_map, fold}
pub use Rattle.std.specs.Option.{IsSome, option_eq, option_map}
pub use Rattle.std.specs.Prelude.{Err, IfOk, IfSome, MatchOption, Ok, Result, if◌then◌else◌, pos, ℤ, ◌+ℤ◌, ◌≤ℤ◌}
pub use Rattle.dexio.proofs.Encoded.{Completes, completes_all, completes_more}
pub use Rattle.dexpool.proofs.Parts.{all_back, all_map, all_parts, all_prefix}
pub use Rattle.dexpool.specs.Numberings.{AllMapTo, AreMarksOf, AreRising, IsAt, Maps, MapsTo, image_of}
pub use Rattle.dexpool.specs.NumberedSymbols.{name_at, symbol_of, text_at, type_at}
pub use Rattle.dexpool.specs.Pools.{count_of}
pub use Rattle.dexpool.specs.Uses.{HasMark, IsMappedUse, IsUseOf, Use}
pub use Rattle.dexspec.proofs.size.SizeSums.{sum_by-at_most, sum_by-map}
pub use Rattle.dexspec.proofs.written.PlacedBytes.{is_at, is_at_within, same_first}
pub use Rattle.dexspec.specs.Bytes.{BytesAt}
pub use Rattle.dexspec.specs.Lists.{BothOrNone, Item, Sequence, rank}
pub use Rattle.dexspec.specs.Mentions.{Mentions, debug_symbols, operation_symbols, optional_text, optional_type}
pub use Rattle.dexspec.specs.Numbers.{IsChain, Uleb128At, Uleb128p1At, plus_one, signed_sum, sleb128, sum_of_groups, uleb128, uleb128p1}
pub use Rattle.dexspec.specs.Texts.{Text, text_cmp}
pub use Rattle.dexspec.specs.Weight.{debug_weight, operands}
pub use Rattle.dexdebug.specs.{AreStored, AreTallied, AreTheNames, AreTheOperations, EndNames, ExtendedAt, FitsIndex, HasDebugAt, HasDebugOf, HasNoDebug, HasPlace, HaveNames, IndexAt, IsDebugAt, IsFormedDebug, IsFormedOperation, IsShape, IsShapeAt, IsSpecial, IsStored, IsStoredAt, KeepsNames, KeepsSymbols, LocalAt, NamesAt, NumberedAt, NumberedDebug, NumberedDebugAt, OperandsAt, ProgramAt, after_numbers, after_operation, both, chain_at, chain_of, counts_of, debug_uses, every, image_or_none, indices_of, name_of, number_in, number_uses, numbered_operation_bytes, numbers_in, operation_of, operation_uses, operation_weight, operations_in, option_decides, renumbered_debug, renumbered_index, renumbered_operation, same_debug, signature_of, stored_debug, text_index, type_of, unindexed, unindexed_of, unindexed_operation, with_numbers}
unfoldable pub use Rattle.dexdebug.specs.{numbered_debug_bytes, operation_in}
pub use Rattle.dexdebug.specs.Meaning.{DenotesDebug, IsKnownDebug, IsKnownOperation, IsKnownText, IsKnownType, debug_in}
pub use Rattle.dexdebug.specs.contracts.debug_operation.OperationHash.TheImpl.{hash_input-value}
pub use Rattle.dexdebug.specs.declared.debug_operation.Operation.{Operation}
pub use Rattle.dexdebug.specs.declared.debug_operation.Operation.TheVariants.{AdvanceLine, AdvancePc, EndLocal, RestartLocal, SetEpilogueBegin, SetFile, SetPrologueEnd, Special, StartLocal, StartLocalExtended}
pub use Rattle.dexdebug.specs.declared.debug_reading.Counts.{Counts}
pub use Rattle.dexdebug.specs.declared.debug_reading.DebugShape.{DebugShape}
pub use Rattle.dexdebug.specs.declared.debug_reading.Tally.{Tally}
pub use Rattle.dexdebug.specs.declared.indices.Index.{Index}
