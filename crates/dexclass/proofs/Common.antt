-- The names from below that the proofs cite, re-exported from one place. Declares nothing.
pub use Rattle.std.proofs.Common.{All, Bool, List, None, Option, Some, [], ap, append-nil, arith, drop, eq-eqb, false, get_or, inl, inr, length, length-drop, map, min, option_to_list, refl, subst, suc, sum_by, sym, take, true, zero, ℕ, ◌&&◌, ◌*◌, ◌++◌, ◌+◌, ◌-◌, ◌<◌, ◌==◌, ◌^◌, ◌||◌, ◌∙◌, ◌∷◌, ◌≡◌, ◌≢◌, ◌≤◌, ◌⊎◌}
pub use Rattle.std.proofs.lemmas.Bool.{cases_eq, cases_order, eqb-true, false≢true, lt-ltb, ltb-true, ne_eqb, false_from_ne_true}
pub use Rattle.std.proofs.lemmas.Grind.{drop_more_same, flat_map-append}
pub use Rattle.std.proofs.lemmas.List.{append_assoc, drop-map, drop-set-lt, ext_get_or, get_or-drop, get_or-map, get_or-set_other, get_or-set_same, get_or-take, get_or_default, length-map, length-set, length-take, map-append, map-id, nil_from_length, take-append-drop, take-map, take_all, take_more, take_more_set}
pub use Rattle.std.proofs.lemmas.List.Elements.{All-append, All-cons, All-contains, All-drop, All-head, All-map, All-nil, All-push, All-tail, All-take, Contains-append_cases, Contains-append_left, Contains-append_right, Contains-get_or}
pub use Rattle.std.proofs.lemmas.List.FromFn.{get_or-range_with_len, length-range_with_len, map-range_with_len_more}
pub use Rattle.std.proofs.lemmas.List.Sums.{sum_by-cons, sum_by_push}
pub use Rattle.std.proofs.lemmas.Result.{err_from_is_err_and, on_ok_weaker}
pub use Rattle.std.specs.List.{AllZip, Contains, SwappedAt, filter, flat_map, range_with_len}
pub use Rattle.std.specs.Option.{option_map, unwrap_or}
pub use Rattle.std.specs.Prelude.{IfNone, IfSome, IsSome, IsTrue, if◌then◌else◌, nat_lt, replicate, slice_index_or, slice_set, vec_len, ◌↔◌}
pub use Rattle.std.specs.Cmp.Lexicographic.{same_text as texts_same}
pub use Rattle.std.proofs.lemmas.Simd.{map-map}
pub use borrow.Author.Count.{below_more}
pub use Rattle.dexmembers.proofs.MembersUsed.{parts_zip, zip-append}
pub use Rattle.dexmembers.proofs.Owned.{one_place}
pub use Rattle.dexmembers.proofs.RenumberingLists.{all_seen, both_ways}
pub use Rattle.dexmembers.specs.ClassDefs.{IsClassDef}
pub use Rattle.dexmembers.specs.Numbered.{AreKnownMembers, AreOfClass, AreOrdered, Members, NumberedMembers, members_in, members_of}
pub use Rattle.dexmembers.specs.Reading.{AreHeavyMembers, AreMembersOf, IsMembersFault, IsMembersFaultWithin, MembersRow}
pub use Rattle.dexmembers.specs.Stripped.{strip_members, stripped_members}
pub use Rattle.dexmembers.specs.Uses.{members_symbols, members_uses}
pub use Rattle.dexmembers.specs.Weight.{members_weight}
pub use Rattle.dexmembers.specs.declared.class_def.ClassDef.{ClassDef}
pub use Rattle.dexorder.proofs.DefinitionDepths.{all_known, same_from_equal}
pub use Rattle.dexorder.specs.Definitions.{AreClassParents, AreDepthsOf, AreNamesOf, defined_name}
pub use Rattle.dexorder.specs.Depths.{AreDepths, HaveParentsWithin, parents_of}
pub use Rattle.dexids.proofs.Bytes.{uint_at_row, ushort_at_rest}
pub use Rattle.dexpool.proofs.KeptRows.{kept_from, kept_has, mark_within}
pub use Rattle.dexpool.proofs.Pairs.{map_both, zip_at, zip_length, zip_push, zip_source, zip_target}
pub use Rattle.dexpool.proofs.Parts.{all_back, all_map, all_prefix}
pub use Rattle.dexids.proofs.TypeLists.{appended_more, if_ok_map}
pub use Rattle.dexpool.proofs.Visits.{marked_both, still_all}
pub use Rattle.dexpool.specs.NumberedSymbols.{text_at, type_at}
pub use Rattle.dexpool.specs.Numberings.{AllMapTo, AreMarksOf, AreRising, IsAt, IsNumbered, IsNumbering, IsOfKind, Maps, MapsTo, image, marked}
pub use Rattle.dexpool.specs.Pools.{AreAll, ArePools}
pub use Rattle.dexpool.specs.Uses.{AreMarkedToo, HasMark, IsMappedUse, IsMarkedUse, IsUseOf, MapsMarked, Use, marks_of, occurs, same_kind}
pub use Rattle.dexpool.specs.declared.faults.ItemFault.{ItemFault}
pub use Rattle.dexids.specs.declared.faults.ReadFault.TheVariants.{Memory, Refused}
pub use Rattle.dexpool.specs.declared.marks.Marks.{Marks}
pub use Rattle.dexpool.specs.declared.symbols.SymbolKind.{SymbolKind}
pub use Rattle.dexspec.proofs.determined.Denoted.{AreReadable, HasClasses, defined_rows, denoted_rows, has_classes, rows_define, rows_denote, same_class_row}
pub use Rattle.dexspec.proofs.determined.OneRow.{one_field, one_method, one_proto, one_string, one_type}
pub use Rattle.dexspec.proofs.determined.Readable.{row_of}
pub use Rattle.dexspec.proofs.lists.InOrder.{AreDistinct-from_Rises, Rises, Rises-from_rises, Rises-places, Rises-same, asymmetric, in_order-same, irreflexive}
pub use Rattle.dexspec.proofs.lists.Mapped.{AreDistinct-map_source, Contains-map_source, AreAmong-map}
pub use Rattle.dexspec.proofs.lists.Members.{AreAmong, AreAmong-flat_map, Contains-filter, Contains-filter_source, Contains-first, Contains-flat_map, Contains-flat_map_source, Contains-later, Contains-nil, and_first, and_second, length-among, list_any-member, list_any-source}
pub use Rattle.dexspec.proofs.merge.Absorption.{IsGood-within}
pub use Rattle.dexspec.proofs.merge.Collections.{collection-is, collection-one, definitions-are, definitions-same}
pub use Rattle.dexspec.proofs.merge.Depths.{Contains-map, depth-same}
pub use Rattle.dexspec.proofs.merge.Growth.{AreMentioned, mentions-rising, mentions-same}
pub use Rattle.dexspec.proofs.merge.SymbolOrders.{field_exact, field_total, method_exact, method_total, proto_exact, proto_total, text_exact, text_total}
pub use Rattle.dexspec.proofs.merge.WeightGrowth.{mentions_weight-among, weight-same, weight-within}
pub use Rattle.dexspec.proofs.normal.ClassOrder.{definitions-different, definitions-distinct, in_class_order-same_sum}
pub use Rattle.dexspec.proofs.normal.ClassPlaces.{class_names-apart, class_place, class_places-rise, in_class_order-has, in_class_order-only}
pub use Rattle.dexspec.specs.Accepted.{AreRows, FailsAt, HasClass, HoldBelow, IsAccepted, IsDefinedBefore, IsReadable, IsRefused, number, place, rows_checked}
pub use Rattle.dexspec.specs.Bytes.{uint_at, ushort_at, ushorts_at}
pub use Rattle.dexspec.specs.Classes.{Body, ClassListAt, ClassRow, ClassTypeRow, Definition, IndexOrNone, access_flags, class_idx, interfaces_off, no_index, source_file_idx, superclass_idx}
pub use Rattle.dexspec.specs.Conditions.{Condition}
pub use Rattle.dexspec.specs.Depth.{IsAcyclic, above, depth, is_defined, parents, place_cmp}
unfoldable pub use Rattle.dexspec.specs.Depth.{in_class_order}
pub use Rattle.dexspec.specs.Files.{AreSame, Collection, Denotes, IsCollectionOf, definitions}
pub use Rattle.dexspec.specs.Header.{ClassDefs, FieldIds, MethodIds, ProtoIds, StringIds, TypeIds, table_size}
pub use Rattle.dexspec.specs.Lists.{AreDistinct, OrNone, rises}
pub use Rattle.dexspec.specs.Mentions.{Mentions, closed, fields_in, methods_in, optional_text, optional_type, protos_in, texts_in, types_in}
unfoldable pub use Rattle.dexspec.specs.Mentions.{mentions, symbols_of}
pub use Rattle.dexspec.specs.Merging.{Caps, Fits, IsConsistent, IsGood, greatest_caps}
pub use Rattle.dexspec.specs.Names.{ArrayType, ClassType, HasKind, IsClass, IsDescriptor, PrimitiveType, TypeKind, VoidType, primitive_letters}
pub use Rattle.dexspec.specs.Rows.{FieldRow, MethodRow, ProtoRow, StringRow, TypeRow, row_at, type_indices}
pub use Rattle.dexspec.specs.Stripping.{strip, strip_collection, strip_definition}
pub use Rattle.dexspec.specs.Symbols.{Field, FieldSymbol, Method, MethodSymbol, Proto, ProtoSymbol, Symbol, TextSymbol, TypeSymbol, field_cmp, method_cmp, proto_cmp}
pub use Rattle.dexspec.specs.Texts.{Text, same_text, text_cmp}
pub use Rattle.dexspec.specs.Weight.{body_weight, field_weight, mentions_weight, method_weight, most_weight, set_weight, static_values_weight}
unfoldable pub use Rattle.dexspec.specs.Weight.{weight}
pub use Rattle.dexspec.specs.WellFormed.{AreWellFormed}
pub use Rattle.dexspec.proofs.sharing.Sharing.{present_has, present_source}
pub use Rattle.dexpool.proofs.Numbers.{some_of}
pub use Rattle.dexspec.proofs.wellformed.FormedRows.{length-ushorts_at}
