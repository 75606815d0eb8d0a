-- The names from below that the proofs cite, re-exported from one place. Declares nothing.
pub use Rattle.std.proofs.Common.{All, Bool, Bor, Equal, Err, Greater, Less, List, None, Ok, Option, Ordering, Result, Some, [], ap, append-nil, append_assoc, arith, cond, drop, false, get_or, inl, inr, length, map, max, min, nat_eq, nat_lt, option_to_list, refl, rules, subst, suc, sum_by, sym, take, true, unwrap_or, zero, ℕ, ◌*◌, ◌++◌, ◌+◌, ◌-◌, ◌<◌, ◌^◌, ◌∙◌, ◌∷◌, ◌≡◌, ◌≢◌, ◌≤◌, ◌⊎◌}
pub use Rattle.std.proofs.lemmas.Bool.{cases_eq, cases_lt, cases_order, cond-false, cond_both, eq-eqb, eqb-true, false≢true, le-ltb, lt-ltb, ltb-false, ltb-true, true≢false}
pub use Rattle.std.proofs.lemmas.Cmp.{tied_itself}
pub use Rattle.std.proofs.lemmas.Grind.{common_steps}
pub use Rattle.std.proofs.lemmas.List.{drop_all, drop_more, get_or-drop, get_or-map, get_or_default, length-append, length-drop, length-map, length-take, map-append, take-append-drop, take_all, take_more}
pub use Rattle.std.proofs.lemmas.List.Concat.{flat_map-append}
pub use Rattle.std.proofs.lemmas.List.Elements.{All-append, All-cons, All-contains, All-get_or, All-head, All-map, All-nil, All-push, All-tail, All-weaker, Contains-append_cases, Contains-append_left, Contains-append_right, Contains-get_or, filter_passes}
pub use Rattle.std.proofs.lemmas.List.Sorted.{answers_always}
pub use Rattle.std.proofs.lemmas.List.Sums.{sum_by-append, sum_by-cons, sum_by-le, sum_by-le-sum_by, sum_by_push}
pub use Rattle.std.proofs.lemmas.Result.{err_from_is_err_and}
pub use Rattle.std.specs.Cmp.{IsTotalOrder, nat_cmp_is, nat_cmp_total}
pub use Rattle.std.specs.List.{AllZip, Contains, FoldsTo, HoldsAt, concat, filter, flat_map, zip}
pub use Rattle.std.specs.Option.{IsSome, option_flatten, option_map}
pub use Rattle.std.specs.Ordering.{is_eq, is_lt, nat_cmp, ordering_index, ordering_reverse}
pub use Rattle.std.specs.Prelude.{IfErr, IfOk, IfSome, IsTrue, MatchOption, if◌then◌else◌, not, slice_index, slice_index_or, ◌==◌, ◌↔◌}
pub use Rattle.std.specs.Vec.Iter.{into_iter_items, into_iter_len}
pub use Rattle.dexcode.specs.Meaning.{IsKnownCode, code_in, DenotesCode}
pub use Rattle.dexcode.specs.Numbered.{NumberedItem}
pub use Rattle.dexcode.specs.Reading.{IsCodeAt, IsCodeFault}
pub use Rattle.dexcode.specs.Renumbering.{HasImages, HasPlaces, item_uses, renumbered_item}
pub use Rattle.dexdebug.proofs.Compared.{decides_by_eq}
pub use Rattle.dexdebug.specs.Meaning.{IsKnownDebug, debug_in}
pub use Rattle.dexio.proofs.Encoded.{encoded_put}
pub use Rattle.dexinsn.specs.Fitting.{ImagesFit, IsGreatest, MapsShort, short_strings}
pub use Rattle.dexpool.proofs.Changed.{AreChanged, changed_more}
pub use Rattle.dexpool.proofs.NumberOrder.{places_agree, rises-map}
pub use Rattle.dexpool.proofs.Pairs.{map_both, zip_length, zip_push}
pub use Rattle.dexpool.proofs.Parts.{all_back, all_of, all_parts, all_prefix}
pub use Rattle.dexpool.proofs.Visits.{visited_all, visited_both, visited_more}
pub use Rattle.dexpool.specs.Laws.{RanksAreNumbers}
pub use Rattle.dexpool.specs.Numberings.{AllMapTo, AreMarksOf, AreRising, IsAt, IsNumbering, Maps, MapsTo, image, image_of}
pub use Rattle.dexpool.specs.Orderly.{KeepOrder, KeepsOrder}
pub use Rattle.dexpool.specs.Pools.{AreAll, ArePools}
pub use Rattle.dexpool.specs.Uses.{HasMark, IsMappedUse, IsUseOf, Use}
pub use Rattle.dexpool.specs.declared.faults.ItemFault.{ItemFault}
pub use Rattle.dexpool.specs.declared.faults.ItemFault.TheVariants.{Memory, Refused}
pub use Rattle.dexspec.proofs.determined.OneCode.{one_code_item, one_pieces, one_some}
pub use Rattle.dexspec.proofs.determined.OneNumber.{one_uleb128}
pub use Rattle.dexspec.proofs.determined.OneRow.{one_field, one_method, one_or_none, one_type}
pub use Rattle.dexspec.proofs.determined.OneValue.{one_array}
pub use Rattle.dexspec.proofs.lists.InOrder.{AreDistinct-from_Rises, Rises, Rises-from_rises, Rises-places}
pub use Rattle.dexspec.proofs.lists.Mapped.{map-kept}
pub use Rattle.dexspec.proofs.lists.Members.{AreAmong, AreDistinct-first, AreDistinct-rest, Contains-cons_cases, Contains-filter_source, Contains-first, Contains-later, Contains-nil, and_both, and_first, and_second, sum_by-among}
pub use Rattle.dexspec.proofs.merge.Depths.{Contains-map}
pub use Rattle.dexspec.proofs.merge.SymbolOrders.{field_exact, field_total, method_exact, method_total, text_total}
pub use Rattle.dexspec.proofs.normal.ClassPlaces.{Contains-map_source}
pub use Rattle.dexspec.proofs.numbers.ByteNumbers.{length-uint}
pub use Rattle.dexspec.proofs.wellformed.PoolRows.{less_number}
pub use Rattle.dexspec.specs.Accepted.{AllCode, Declares, HasAnnotations, HasClass, HasCode, HasDebug, HasDebugAt, HasPiecesAt, HasTries, HasTriesAt, IsFrame, IsReadable, NamesDeclared}
pub use Rattle.dexspec.specs.Annotations.{Directory, DirectoryAt, PairAt, PairsAt, RefListAt, SetAt, annotated, fields_count, methods_count, no_directory, pairs_at, parameters_count}
pub use Rattle.dexspec.specs.Bytes.{uint, uint_at}
pub use Rattle.dexspec.specs.ClassData.{BelongTo, ClassData, ClassDataAt, EncodedField, EncodedFieldsAt, EncodedMethod, EncodedMethodsAt, IsNextIndex, ShareNone, fields_of, methods_of, no_class_data}
pub use Rattle.dexspec.specs.Classes.{Body, ClassTypeRow, FieldDef, MakesMethod, MethodDef, StaticValuesAt, annotations_off, class_data_off, class_idx, field_def, static_values_off}
pub use Rattle.dexspec.specs.Code.{Code, CodeAt, TriesAt}
pub use Rattle.dexspec.specs.Conditions.{Condition}
pub use Rattle.dexspec.specs.Header.{ClassDefs, FieldIds, MethodIds, data_off, table_size}
pub use Rattle.dexspec.specs.Lists.{AreDistinct, BothOrNone, OrNone, Sequence, SomeAt, add_in_order, in_order, rank, rises, zip_with}
pub use Rattle.dexspec.specs.Mentions.{Mentions, code_symbols, field_of, field_symbols, method_of, method_symbols, set_symbols, values_symbols}
pub use Rattle.dexspec.specs.Numbers.{Uleb128At, uleb128}
pub use Rattle.dexspec.specs.Placing.{SetOffsets, directory_bytes, pair_cmp, pairs, pairs_bytes}
pub use Rattle.dexspec.specs.Rows.{FieldRow, MethodRow, row_at}
pub use Rattle.dexspec.specs.Spellings.{differences, encoded_method_bytes, field_index, method_index}
unfoldable pub use Rattle.dexspec.specs.Spellings.{class_data_bytes}
pub use Rattle.dexspec.specs.Symbols.{Field, Method, field_cmp, method_cmp}
pub use Rattle.dexspec.specs.Texts.{Text, text_cmp}
pub use Rattle.dexspec.specs.Values.{EncodedArrayItemAt, NoValues, Values, count_values}
pub use Rattle.dexspec.specs.Weight.{code_weight, debug_weight, field_weight, method_weight, ref_list_weight, set_weight, static_values_weight}
pub use Rattle.dexspec.specs.internal.Writing.{Puts}
pub use Rattle.dexval.proofs.Weights.{set_weight_is, statics_weigh}
pub use Rattle.dexval.specs.Code.{set_of, value_of}
pub use Rattle.dexval.specs.Directories.{HasMembers, directory_weight}
pub use Rattle.dexval.specs.Numbered.{AreKnown, IsKnownAnnotation, IsKnownDirectory, IsKnownSet, NoValue, NumberedDirectory, NumberedSet, NumberedValues, ThenNext, annotation_in, directory_in, field_at, method_at, set_in, values_in, values_of_list}
pub use Rattle.dexval.specs.Reading.{AreStaticsAt, IsDirectoryAt, IsDirectoryFault, IsDirectoryFaultWithin, IsDirectoryWithin, IsStaticsFault}
pub use Rattle.dexval.specs.Renumbering.{HavePlaces, MapsNarrow, SetHasPlaces, remapped, renumbered_set, renumbered_values}
pub use Rattle.dexval.specs.Shared.{shared_directory_of}
pub use Rattle.dexval.specs.Spelled.{numbered_set_weight, numbered_sets_weight, numbered_statics_weight}
pub use Rattle.dexval.specs.Tables.{IsPlaceIn, IsRemappedSet, NumberedTable, places_at, set_at, sets_at}
pub use Rattle.dexval.specs.Uses.{set_uses, values_uses}
pub use Rattle.dexval.specs.declared.directory.SharedDirectory.{SharedDirectory}
pub use Rattle.std.specs.FinMap.{nat_cmp-IsAntisymmetric}
pub use Rattle.std.specs.FinMap.Entries.{by_order}
