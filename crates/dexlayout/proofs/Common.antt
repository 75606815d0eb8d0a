-- The names from below that the proofs cite, and the definitions of this crate, re-exported from one place. Declares nothing.
pub use Rattle.std.proofs.Common.{All, Bool, Bor, IfSome, List, None, Option, Ordering, Some, [], ap, append_assoc, arith, cond, drop, eq-eqb, false, get_or, inl, inr, length, map, not, refl, subst, suc, sym, take, true, zero, ℕ, ◌*◌, ◌++◌, ◌+◌, ◌-◌, ◌<◌, ◌^◌, ◌||◌, ◌∙◌, ◌∷◌, ◌≡◌, ◌≤◌, ◌⊎◌}
pub use Rattle.std.proofs.lemmas.Bool.{cases_eq, cond-false, cond-true, eqb-false, eqb-true, ne_eqb}
pub use Rattle.std.proofs.lemmas.Grind.{flat_map-append}
pub use Rattle.std.proofs.lemmas.List.{append-nil, drop-drop, drop-take, drop_all, drop_at, drop_more, flat_map_more, get_or-append-add, get_or-drop, get_or-map, get_or-take, get_or_append_left, get_or_default, length-append, length-drop, length-map, length-take, map-append, take-take, take_all, take_at, take_more}
pub use Rattle.std.proofs.lemmas.List.Elements.{All-append, All-cons, All-contains, All-head, All-nil, All-tail, All-weaker, Contains-append_left, Contains-append_right, Contains-get_or, filter-append}
pub use Rattle.std.proofs.lemmas.Result.{IfOk-at_ok, IfOk-weaker, on_ok_weaker}
pub use Rattle.std.proofs.lemmas.Simd.{map-map}
pub use Rattle.std.specs.List.{Contains, filter, flat_map, list_any, position_or_len, zip}
pub use Rattle.std.specs.Option.{option_map, option_map_or}
pub use Rattle.std.specs.Prelude.{Err, IfOk, MatchOption, Ok, OnOk, Result, fold, if◌then◌else◌, option_to_list, replicate, slice_index, ◌%◌, ◌==◌}
pub use Rattle.dexclass.specs.Numbered.{NumberedClass, definition_of}
pub use Rattle.dexclass.specs.Uses.{IsKnownClass}
pub use Rattle.dexcode.specs.CodePut.{HasShortTypes, numbered_code_bytes}
pub use Rattle.dexcode.specs.Meaning.{IsKnownCode, code_in}
pub use Rattle.dexcode.specs.Numbered.{NumberedItem, handlers_of}
pub use Rattle.dexio.proofs.Encoded.{given_all, given_more}
pub use Rattle.dexhead.specs.Laid.{StatesLayout, map_list, map_start}
pub use Rattle.dexhead.specs.Written.{entry_meant}
pub use Rattle.dexmembers.specs.DirectoryPut.{count_placed, numbered_directory_bytes}
pub use Rattle.dexmembers.specs.Numbered.{AreKnownMembers, IsKnownField, IsKnownMethod, NumberedField, NumberedMembers, NumberedMethod, field_in, fields_of, method_in, methods_of}
pub use Rattle.dexmembers.specs.Spelled.{numbered_class_data_bytes}
pub use Rattle.dexpool.proofs.Parts.{all_back, all_of}
pub use Rattle.dexpool.proofs.UnionLaws.{ranks_are_numbers}
pub use Rattle.dexpool.specs.Laws.{RanksAreNumbers}
pub use Rattle.dexpool.specs.Numberings.{AreRising, IsNumbering}
pub use Rattle.dexspec.proofs.layout.Placements.{HasBytes, length-chunks, length-items_offsets, length-set_offsets, numbers_offsets, sections_follow, sections_have_bytes}
pub use Rattle.dexspec.proofs.layout.Places.{end_from_le, items_few, length-offsets_from, length-padding}
pub use Rattle.dexspec.proofs.layout.SectionPlaces.{ItemIsAt, data_before_map, map_list_named, map_place, map_place_is, parts}
pub use Rattle.dexspec.proofs.layout.Uses.{AreNumbered, IsNumber, UseIsAt, items_numbered, length-code_offsets, length-debug_offsets, shared_numbered, use_encoded}
pub use Rattle.dexspec.proofs.lists.Equality.{IsEquality, text_decides}
pub use Rattle.dexspec.proofs.lists.Members.{Contains-cons_cases, Contains-first, Contains-flat_map_source, Contains-later, Contains-nil, list_any-source}
pub use Rattle.dexspec.proofs.lists.Sources.{distinct_source, map_source}
pub use Rattle.dexspec.proofs.sharing.Sameness.{debug_decides, set_decides, types_decide}
pub use Rattle.dexspec.proofs.sharing.Sharing.{numbers_mapped, present-append, present_source}
pub use Rattle.dexspec.specs.Annotations.{AnnotationSet}
pub use Rattle.dexspec.specs.Bytes.{BytesAt, padding, round_up, uint, ushort}
pub use Rattle.dexspec.specs.Canonical.{data_sections, data_start, debug_items, map_bytes, map_of, ordered, placed_tables, set_items, type_list_items, unsigned_file, with_sums}
unfoldable pub use Rattle.dexspec.specs.Canonical.{annotation_offsets, annotation_section, array_section, canonical, class_data_section, code_section, debug_section, directory_section, ref_list_section, set_offsets, set_section, string_section, type_list_section}
pub use Rattle.dexspec.specs.Classes.{Definition, FieldDef, MethodDef, declared_fields, declared_methods}
pub use Rattle.dexspec.specs.Code.{Code}
pub use Rattle.dexspec.specs.Debug.{Debug}
pub use Rattle.dexspec.specs.Files.{Collection, definitions}
pub use Rattle.dexspec.specs.Header.{HasSize, Table}
pub use Rattle.dexspec.specs.Lists.{add_in_order, chunks, distinct, in_order, present, rank, zip_with}
pub use Rattle.dexspec.specs.Mentions.{Mentions, debug_symbols, field_of, handler_symbols, mentions, method_of, piece_symbols}
pub use Rattle.dexspec.specs.Merging.{AreCaps, Caps, Fits, IsGood, greatest_caps}
pub use Rattle.dexspec.specs.Placing.{EqualOnce, Items, Ordered, Placed, SetOffsets, all_methods, bytes_from, class_data_uses, class_sets, code_uses, debug_uses, directory_bytes, directory_uses, end, end_from, is_empty_class, method_sets, offsets, offsets_from, own_items, own_numbers, pair_cmp, pairs, ref_list_uses, section, set_offsets_of, set_uses, shared_items, static_values_uses, type_list_uses, unless_empty, uses_offsets, values_unless_empty}
pub use Rattle.dexspec.specs.Sameness.{same_debug, same_set, same_types}
pub use Rattle.dexspec.specs.Sections.{AnnotationItems, AnnotationSetRefLists, AnnotationSets, AnnotationsDirectories, ClassDataItems, CodeItems, DebugInfoItems, EncodedArrayItems, HeaderItem, MapList, Section, StringDataItems, TableOf, TypeLists}
pub use Rattle.dexspec.specs.Spellings.{annotation_bytes, class_data_bytes, code_bytes, debug_bytes, elements_bytes, encoded_array_bytes, field_index, method_index, offsets_bytes, text_index, type_index, type_list_bytes, value_bytes, values_bytes}
pub use Rattle.dexspec.specs.Texts.{Text, string_data, text_cmp}
pub use Rattle.dexspec.specs.WellFormed.{AreWellFormed, IsCodeItem, IsDebug, IsMethodDef}
pub use Rattle.dexval.specs.Code.{annotation_of, set_of, value_of}
pub use Rattle.dexval.specs.Numbered.{Annotated, AreKnown, Array, BooleanLiteral, ByteLiteral, CharLiteral, DoubleLiteral, EnumReference, FieldReference, FloatLiteral, IntLiteral, IsKnownAnnotation, IsKnownSet, LongLiteral, MethodReference, Named, NoElement, NoValue, NullLiteral, NumberedAnnotation, NumberedElements, NumberedSet, NumberedValue, NumberedValues, Plain, ShortLiteral, StringReference, ThenNamed, ThenNext, TypeReference, annotation_in, elements_in, set_in, text_at, type_at, value_in, values_in, values_of_list}
pub use Rattle.dexval.specs.declared.annotation.Annotation.{Annotation}
pub use Rattle.dexlayout.specs.{AreAnnotations, AreClassData, AreCodes, AreData, AreDebugs, AreDirectories, AreEncodedIn, AreItemsIn, AreKept, AreKeptIn, AreKnownSets, AreLaidIn, AreLaidSo, AreRefLists, AreSets, AreShared, AreSharedAt, AreSharedItemsOf, AreStaticValues, AreTypeLists, AreTypes, AreWritable, AreWrittenSets, EncodedItems, HasShortCode, HasUses, HaveItems, HaveOwnBytes, IsLaid, IsMap, ItemPlaces, KeepsUse, KeptItems, SetPlaces, SharedTo, SharesLists, SharesSets, align_next, all_debug_encodings, annotation_counts, annotation_item, annotation_items, class_data_item, class_data_items, class_parameter_counts, code_item, code_items, collect_class, collect_classes, collect_method, collect_methods, collect_own, debug_encoding, debug_encodings, directory_item, directory_items, encode_use, encode_uses, encoded_debugs, encoded_lists, end_item, entry_count, entry_of, field_uses, file_end, has_no_members, interfaces_use, list_bytes, list_item, members_uses, method_uses, methods_uses, no_items_from, no_sets, none_from, offset_lists, ordered_of, parameter_counts, parts_of_class, parts_of_classes, parts_of_methods, pass, pass_use, place_use, place_uses, placed_map, put_at, put_item, put_next, same_bytes, same_numbers, same_numbers_decides, section_parts, set_annotations, set_item, set_use, sets_of_class, sets_of_method, shared_at, shared_by, shared_places, static_item, table_parts, total, use_offsets, whole_map, without_bytes}
