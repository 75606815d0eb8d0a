-- The names from below that the proofs cite, re-exported from one place. Declares nothing.
pub use Rattle.std.proofs.Common.{Bool, Equal, Err, Greater, IsSome, IsTrue, Less, List, None, Ok, Option, Ordering, Some, [], add-one, ap, append_assoc, arith, drop, drop_at, eq-eqb, false, get_or, inl, inr, length, length-append, length-drop, length-take, lt-ltb, ltb-true, map, min, nat_eq, nat_lt, ne_eqb, not, of_calls, refl, replicate, rules, set, slice_index, slice_index_or, subst, suc, sum_by, sym, take, take_all, true, zero, ℕ, ◌&&◌, ◌*◌, ◌++◌, ◌+◌, ◌-◌, ◌/◌, ◌<◌, ◌==◌, ◌^◌, ◌||◌, ◌↔◌, ◌∙◌, ◌∷◌, ◌≡◌, ◌≢◌, ◌≤◌, ◌⊎◌}
pub use Rattle.std.proofs.lemmas.Bool.{cases_eq, cases_lt, cases_order, eqb-true, false≢true, or_left, or_right}
pub use Rattle.std.proofs.lemmas.Cmp.{nat_list_cmp_total, on_total, tied_itself}
pub use Rattle.std.proofs.lemmas.List.{append-nil, drop-append-le, drop-drop, drop-map, drop-set-lt, drop-take, drop_all, drop_more, get_or-drop, get_or-map, get_or-set_other, get_or-set_same, get_or_append_left, get_or_default, get_or_past, get_or_push, length-map, length-replicate, length-set, length_push, map-append, map-id, map_more, set-set, take-append-le, take-map, take-set-le, take-take, take_more, take_more_set}
pub use Rattle.std.proofs.lemmas.List.Edits.{length-swap, map_over_more, swap_is}
pub use Rattle.std.proofs.lemmas.List.Elements.{All-cons, All-contains, All-contains_itself, All-get_or, All-head, All-map, All-more, All-nil, All-push, All-tail, All-weaker, Contains-append_cases, Contains-append_left, Contains-append_right, Contains-get_or}
pub use Rattle.std.specs.Cmp.{IsTotalOrder, nat_cmp_is}
pub use Rattle.std.specs.Cmp.Lexicographic.{slice_cmp}
pub use Rattle.std.specs.List.{All, AllZip, Contains, FoldsTo, flat_map, swap}
pub use Rattle.std.specs.Ordering.{is_lt, nat_cmp, ordering_reverse, ordering_then}
pub use Rattle.dexrows.proofs.Composing.{all_seen, at_rest, holds_at_rest}
pub use Rattle.dexrows.specs.Join.{AreSorted, IsImage, IsJoin, IsOfParts, row_cmp}
pub use Rattle.dexrows.specs.Numbers.{Among, Lower, ProtoNumbers, RiseAmong, RisesOn, lower_of}
pub use Rattle.dexrows.specs.declared.fields.FieldRow.{FieldRow}
pub use Rattle.dexrows.specs.declared.methods.MethodRow.{MethodRow}
pub use Rattle.dexspec.proofs.determined.OneRow.{one_string, one_type}
pub use Rattle.dexspec.proofs.lists.InOrder.{AreDistinct-from_Rises, Rises, Rises-from_rises, Rises-in_order, Rises-places, Rises-same, asymmetric, in_order-has, in_order-only, irreflexive, less_is, rank-among, rank-cons, rank-get_or, rises-from_Rises, rises-in_order}
pub use Rattle.dexspec.proofs.lists.Mapped.{All-among, Contains-map_source}
pub use Rattle.dexspec.proofs.lists.Members.{AreAmong, Contains-cons_cases, Contains-first, Contains-flat_map, Contains-flat_map_source, Contains-later, Contains-nil, and_both, length-among, list_any-member}
pub use Rattle.dexspec.proofs.merge.Depths.{Contains-map}
pub use Rattle.dexspec.proofs.merge.SymbolOrders.{field_exact, field_total, method_exact, method_total, proto_exact, proto_total, text_exact, text_total}
unfoldable pub use Rattle.dexspec.specs.Bytes.{uint_at, ushort_at}
pub use Rattle.dexspec.specs.Header.{FieldIds, MethodIds, ProtoIds, StringIds, TypeIds, table_size}
pub use Rattle.dexspec.specs.Lists.{OrNone, in_order, rank, rises}
pub use Rattle.dexspec.specs.Mentions.{Mentions, closed, fields_in, mentions, methods_in, proto_types, protos_in, texts_in, types_in}
pub use Rattle.dexspec.specs.Names.{ArrayType, ClassType, IsArray, IsClass, IsDescriptor, IsMemberName, IsPrimitive, IsReferenceType, IsValueType, IsVoid, PrimitiveType, VoidType, primitive_letters, shorty, shorty_letter}
pub use Rattle.dexspec.specs.Rows.{Follows, HasField, HasMethod, HasProto, HasRow, HasType, StringRow, TypeListAt, TypeRow, field_row_key, key_cmp, method_row_key, proto_row_key, row_at, type_indices, type_row_key}
pub use Rattle.dexspec.specs.Symbols.{Field, FieldSymbol, IsField, IsMethod, IsProto, Method, MethodSymbol, Proto, ProtoSymbol, Symbol, TextSymbol, TypeSymbol, field_cmp, method_cmp, proto_cmp}
pub use Rattle.dexspec.specs.Texts.{StringDataAt, Text, spelling, text_cmp}
pub use Rattle.dexspec.specs.Weight.{mentions_weight, proto_weight, text_weight}
pub use Rattle.std.specs.FinMap.{IsAntisymmetric}
pub use Rattle.dexids.specs.Reading.{AreNames, AreProtos, AreTexts, FieldRowAt, HasSpan, MethodRowAt, ProtoRowAt, ReadTo, TypeRowAt, file_numbers, listed}
pub use Rattle.dexids.specs.Tables.{field_key, field_of, method_key, method_of, proto_at, proto_of, span_of, text_of, type_cmp, type_of}
pub use Rattle.dexpool.specs.{AllMapTo, AllRanksGrow, AreAll, AreMarkedToo, AreMarksOf, ArePools, AreRising, AreTables, DenotesField, DenotesMethod, DenotesProto, HasFieldParts, HasMark, HasMethodParts, HasProtoParts, IsAt, IsFieldRow, IsMapped, IsMappedUse, IsMarkedUse, IsMethodRow, IsNumbered, IsNumbering, IsOfKind, IsProtoEntry, IsTypeNumber, IsTypeOf, IsUseOf, KeepsOrder, Maps, MapsAll, MapsDown, MapsMarked, MapsTo, MapsUse, MapsWithin, RanksAreNumbers, RanksArePlaces, RanksGrow, Use, count_of, image, image_in, kept, marked, marks_of, occurs, places, same_kind, stored_field, stored_method, stored_proto, stored_type, symbols_in, symbols_of, union_of}
pub use Rattle.dexpool.specs.declared.marks.Marks.{Marks}
pub use Rattle.dexids.specs.declared.rows.ProtoEntry.{ProtoEntry}
pub use Rattle.dexids.specs.declared.rows.Span.{Span}
pub use Rattle.dexpool.specs.declared.symbols.SymbolKind.{SymbolKind}
pub use Rattle.dexpool.specs.declared.numbering.Tables.{Tables}
pub use Rattle.dexpool.specs.internal.Closing.{AreClosed, AreClosure, HasMarkedEntry, HasMarkedField, HasMarkedMethod, IsCut, IsMarked, entry_types, field_types, kept_places, kept_symbols, mark_all, new_numbers, number_or_none}
pub use Rattle.dexpool.specs.internal.Joining.{AreJoinedFields, AreJoinedMethods, AreJoinedProtos, AreJoinedTexts, AreJoinedTypes, AreMapsOf, Denote, HasShorty, IsRowOf, IsUnion, Moves, lists_in, numberings_of, proto_of_row, HavePart, HaveSameParts, SameFrom, image_at, total_maps}
pub use Rattle.dexpool.specs.internal.Marking.{HaveAllMarks}
pub use Rattle.dexpool.specs.internal.Ranking.{ComeFirst, PassBelow}
pub use Rattle.dexpool.specs.internal.Renumbering.{HasSpans, IsEntryWithin, IsFieldWithin, IsMethodWithin, StaySorted, moved_field, moved_method, moved_proto, moved_type, numbers_in, numbers_of}
pub use Rattle.dexpool.specs.internal.SharedLists.{Covers, IsPlaceWithin}
