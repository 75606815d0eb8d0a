-- The names that the proofs cite most, re-exported from one place. Declares nothing.
pub use Rattle.byteorder.specs.Endian.{little_bytes, little_number, twos_complement}
pub use Rattle.dexpool.proofs.Parts.{all_back, all_prefix}
pub use Rattle.dexpool.specs.Images.{IsMapped, MapsUse}
pub use Rattle.dexpool.specs.Laws.{MapsAll, MapsWithin, RanksAreNumbers}
pub use Rattle.dexpool.specs.Numberings.{AllMapTo, AreMarksOf, AreRising, IsAt, IsNumbered, IsNumbering, IsOfKind, Maps, MapsTo, image, image_of}
pub use Rattle.dexpool.specs.Pools.{ArePools, count_of}
pub use Rattle.dexpool.specs.Uses.{HasMark, IsMappedUse, IsUseOf, Use, marks_of}
pub use Rattle.dexpool.specs.declared.faults.ItemFault.{ItemFault}
pub use Rattle.dexpool.specs.declared.symbols.SymbolKind.{SymbolKind}
pub use Rattle.dexspec.proofs.determined.OneClass.{one_annotation_item, one_ref_list, one_set}
pub use Rattle.dexspec.proofs.determined.OneNumber.{one_uleb128}
pub use Rattle.dexspec.proofs.determined.OneRow.{one_all_zip, one_or_none, one_string, one_type}
pub use Rattle.dexspec.proofs.determined.OneValue.{one_value}
pub use Rattle.dexspec.proofs.lists.Members.{Contains-cons_cases, Contains-nil, and_both, and_first, and_second, length-among}
pub use Rattle.dexspec.proofs.numbers.ByteNumbers.{fits_64, number_bound, pow_256, pow_256_pos, signed_in_room}
pub use Rattle.dexspec.proofs.size.SizeItems.{offsets_bytes-size, uleb128-size, value_bytes-size}
pub use Rattle.dexspec.proofs.size.SizeSums.{sum_by-map}
pub use Rattle.dexspec.proofs.wellformed.FormedRows.{length-uints_at, length-zip}
pub use Rattle.dexspec.specs.Annotations.{AnnotationAt, AnnotationSet, Directory, DirectoryAt, PairAt, PairsAt, RefListAt, SetAt, fields_count, methods_count, pairs_at, parameters_count}
pub use Rattle.dexspec.specs.Bytes.{BytesAt, round_up, signed_in, uint, uint_at, uints_at}
unfoldable pub use Rattle.dexspec.specs.Bytes.{bytes_of, number_of}
pub use Rattle.dexspec.specs.Header.{data_off}
pub use Rattle.dexspec.specs.Lists.{AreDistinct, OrNone, rank, rises}
pub use Rattle.dexspec.specs.Mentions.{Mentions, annotation_symbols, elements_symbols, set_symbols, value_symbols, values_symbols}
pub use Rattle.dexspec.specs.Numbers.{BeginsWith, IsChain, IsUleb128, Uleb128At, magnitude, size_u, uleb128}
pub use Rattle.dexspec.specs.Rows.{FieldRow, MethodRow, StringRow, TypeRow}
pub use Rattle.dexspec.specs.Spellings.{annotation_bytes, bits_bytes, bits_width, complement, elements_bytes, encoded_array_bytes, offsets_bytes, signed_bytes, signed_width, text_index, type_index, unsigned_bytes, unsigned_width, value_bytes, values_bytes}
pub use Rattle.dexspec.specs.Symbols.{Field, FieldSymbol, Method, MethodSymbol, ProtoSymbol, Symbol, TextSymbol, TypeSymbol, field_cmp, method_cmp}
pub use Rattle.dexspec.specs.Texts.{Text, text_cmp}
pub use Rattle.dexspec.specs.Values.{AnnotationValue, ArrayValue, BooleanValue, ByteValue, CharValue, DoubleValue, Elements, ElementsAt, EncodedArrayItemAt, EnumValue, FieldValue, FloatValue, IntValue, LongValue, MethodValue, NoElements, NoValues, NullValue, ShortValue, SizedAt, StringValue, ThenElement, ThenValue, TypeValue, ValueAt, Values, ValuesAt, count_values, elements_depth, most_depth, names_of, value_byte, value_depth, values_depth}
pub use Rattle.dexspec.specs.Weight.{annotation_weight, elements_weight, ref_list_weight, set_weight, static_values_weight, value_weight, values_weight}
pub use Rattle.dexspec.specs.internal.Writing.{Puts}
pub use Rattle.dexval.specs.CheckedSets.{AreChecked, HasDirectoryOf, IsWeighed}
pub use Rattle.dexval.specs.Checking.{HasAnnotation, HasArray, HasElement, HasElements, HasItem, HasSetOf, HasStaticsOf, HasValue, HasValueOf}
pub use Rattle.dexval.specs.Code.{annotation_of, annotation_step, element_of, element_step, elements_of, encoded_elements, encoded_of, encoded_type, set_of, value_of, value_step, values_of, visibility_of}
pub use Rattle.dexval.specs.Directories.{ArePairsAt, HasMembers, HasPair, IsIndexBelow, IsRefListAt, IsSetOrEmptyAt, NoDirectoryAt, NoPairsAt, NoRefListAt, NoSetOrEmptyAt, directory_weight, set_weight_in, sets_weight_in}
pub use Rattle.dexval.specs.DirectoryCache.{AreCached, AreHeld, HaveOffsets, IsNamedOf, IsNoted}
pub use Rattle.dexval.specs.Equality.{annotation_input, elements_input, equal_sets, set_decides, value_input, values_input}
pub use Rattle.dexval.specs.Items.{HasOffsets, IsItemAt, IsRefusal, NoItemAt, NoSetAt, Refuses}
pub use Rattle.dexval.specs.Nesting.{AreElementsReadAt, AreReadAt, AreValuesReadAt, HasPools, IsAnnotationReadAt, IsElementReadAt, NoAnnotationAt, NoArrayAt, NoElementAt, NoElementsAt, NoValuesAt}
pub use Rattle.dexval.specs.Numbered.{Annotated, AreKnown, Array, BooleanLiteral, ByteLiteral, CharLiteral, Denote, Denotes, DenotesAnnotation, DenotesSet, DoubleLiteral, EnumReference, FieldReference, FloatLiteral, HaveKnown, IntLiteral, IsKnown, IsKnownAnnotation, IsKnownSet, Literal, LongLiteral, MethodReference, Named, NoElement, NoValue, NullLiteral, NumberedAnnotation, NumberedDirectory, NumberedElements, NumberedSet, NumberedValue, NumberedValues, Plain, Reference, ShortLiteral, StringReference, ThenNamed, ThenNext, TypeReference, annotation_in, directory_in, elements_in, elements_of_list, field_at, kind_of_reference, method_at, named_value, plain_value, set_in, text_at, type_at, value_in, values_in, values_of_list}
pub use Rattle.dexval.specs.Reading.{EncodedValueAt, IsDirectoryAt, IsDirectoryFault, IsDirectoryFaultWithin, IsSetAt, IsSetFault}
pub use Rattle.dexval.specs.Renumbering.{AnnotationHasPlaces, ElementHasPlaces, ElementsHavePlaces, HasPlaces, HavePlaces, MapsNarrow, SetHasPlaces, remapped, renumbered, renumbered_annotation, renumbered_element, renumbered_elements, renumbered_set, renumbered_values}
pub use Rattle.dexval.specs.Shared.{HoldsPlaces, IsNamedBy, NamesAll, lists_of_members, sets_of_members}
pub use Rattle.dexval.specs.Spelled.{AreCounted, HaveCounted, IsCounted, IsCountedAnnotation, elements_count, encoded_annotation_bytes, literal_bytes, numbered_annotation_bytes, numbered_annotation_weight, numbered_array_bytes, numbered_bytes, numbered_elements_bytes, numbered_elements_weight, numbered_offsets, numbered_set_bytes, numbered_set_weight, numbered_values_bytes, numbered_values_weight, numbered_weight, reference_code, values_count}
unfoldable pub use Rattle.dexval.specs.Spelled.{count_bytes}
pub use Rattle.dexval.specs.Tables.{AreNewNamed, AreRemappedSets, Extends, HoldsLists, IsListed, IsPlaceIn, IsRemappedSet, NumberedTable, places_at, set_at, sets_at}
pub use Rattle.dexval.specs.Uses.{annotation_uses, element_uses, elements_uses, set_uses, value_uses, values_uses}
pub use Rattle.dexval.specs.declared.annotation.Annotation.{Annotation}
pub use Rattle.dexval.specs.declared.directory_cache.Budget.{Budget}
pub use Rattle.dexval.specs.declared.directory_cache.DirectoryCache.{DirectoryCache}
pub use Rattle.dexval.specs.declared.directory_checking.CheckedSets.{CheckedSets}
pub use Rattle.dexval.specs.declared.value.Element.{Element}
pub use Rattle.dexval.specs.declared.value.EncodedAnnotation.{EncodedAnnotation, out-EncodedAnnotation}
pub use Rattle.dexval.specs.declared.value.Value.{Value}
pub use Rattle.dexval.specs.declared.value.Value.TheOpen.{EncodedAnnotation-F}
pub use Rattle.dexval.specs.declared.value.Value.TheViews.{out-roll-EncodedAnnotation, roll-EncodedAnnotation}
pub use Rattle.dexval.specs.internal.Counting.{Counts, HasCounted, IsFaultWithin, IsTooHeavy}
pub use Rattle.dexval.specs.internal.Heads.{head_of, held_elements, held_values}
pub use Rattle.dexval.specs.internal.Scalars.{IsReadAt, IsUnknown, NoValueAt, Spells, kind_of_code, width_of}
pub use Rattle.std.proofs.Common.{Bool, Err, List, None, Ok, Option, Ordering, Some, [], ap, append_assoc, arith, drop, false, fold, get_or, inl, inr, length, length-take, map, max, min, nat_eq, ne_eqb, of_z, refl, rules, set, slice_index_or, subst, suc, sum_by, sym, take, to_z, true, zero, ℕ, ◌%◌, ◌*◌, ◌++◌, ◌+◌, ◌-◌, ◌/◌, ◌<◌, ◌^◌, ◌∙◌, ◌∷◌, ◌≡◌, ◌≢◌, ◌≤◌, ◌⊎◌}
pub use Rattle.std.proofs.Math.Nat.{div-add-mod, mod-eq_of_lt, mul-div_cancel_left, mul-lt-mul_of_pos_right, mul-mod_right, mul-suc, mul_assoc, mul_comm, pow-le-pow_right, pow-suc}
pub use Rattle.std.proofs.lemmas.Bool.{cases_eq, cases_lt, le-ltb, lt-ltb}
pub use Rattle.std.proofs.lemmas.Grind.{flat_map-append}
pub use Rattle.std.proofs.lemmas.Int.{ints, to_z-of_z}
pub use Rattle.std.proofs.lemmas.List.{append-nil, get_or-append-add, get_or-map, get_or-set_other, get_or-set_same, get_or_append_left, get_or_default, length-append, length-map, length-set, map-append, map_more, take-append-le, take-map, take_all, take_more, take_more_set}
pub use Rattle.std.proofs.lemmas.List.Elements.{All-append, All-cons, All-get_or, All-head, All-nil, All-tail, Contains-append_left, Contains-get_or, Contains-push}
pub use Rattle.std.proofs.lemmas.List.Sums.{sum_by-append, sum_by-cons, sum_by_more}
pub use Rattle.std.proofs.lemmas.Nat.{pow-add}
pub use Rattle.std.specs.Fn.{FnReturnsAt}
pub use Rattle.std.specs.Global.{Box, Vec}
pub use Rattle.std.specs.HashMap.{get}
pub use Rattle.std.specs.Int.{bytes_low_first, w16, w32, w64, w8}
pub use Rattle.std.specs.List.{AllZip, Contains, FoldsTo, flat_map}
pub use Rattle.std.specs.Ordering.{is_lt, nat_cmp}
pub use Rattle.std.specs.Prelude.{All, FitsSigned, IfSome, IsErrAnd, IsSome, IsTrue, MatchOption, Result, negsuc, pos, slice_index, unwrap_or, vec_len, ℤ, ◌↔◌}
