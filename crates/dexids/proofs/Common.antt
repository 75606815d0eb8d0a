-- The names from below that the proofs cite, re-exported from one place. Declares nothing.
pub use Rattle.std.proofs.Common.{Bool, Err, IsTrue, Less, List, None, Ok, Option, Ordering, Some, [], add-one, ap, append_assoc, arith, drop, false, get_or, inl, inr, length, length-append, length-drop, length-take, map, min, nat_eq, ne_eqb, not, refl, replicate, rules, slice_index, subst, suc, sym, take, take_all, true, zero, ℕ, ◌*◌, ◌++◌, ◌+◌, ◌-◌, ◌/◌, ◌<◌, ◌==◌, ◌↔◌, ◌∙◌, ◌∷◌, ◌≡◌, ◌≢◌, ◌≤◌}
pub use Rattle.std.proofs.lemmas.Bool.{cases_eq, cases_lt, false≢true}
pub use Rattle.std.proofs.lemmas.List.{drop-drop, drop-map, drop-take, drop_all, drop_more, get_or-map, get_or_append_left, get_or_default, get_or_past, get_or_push, length-map, length_push, map_more, take-map, take-take}
pub use Rattle.std.proofs.lemmas.List.Elements.{All-cons, All-head, All-map, All-nil, All-tail}
pub use Rattle.std.specs.List.{All, AllZip}
pub use Rattle.std.specs.Ordering.{is_lt, nat_cmp}
pub use Rattle.std.specs.Prelude.{IfOk, Result, if◌then◌else◌, slice_get}
pub use Rattle.dexrows.proofs.Composing.{all_seen}
pub use Rattle.dexrows.proofs.Shorts.{key_agrees, key_at, key_differs, key_ended, short_of}
pub use Rattle.dexrows.specs.declared.fields.FieldRow.{FieldRow}
pub use Rattle.dexrows.specs.declared.methods.MethodRow.{MethodRow}
pub use Rattle.dexspec.proofs.determined.OneRow.{one_string, one_type}
pub use Rattle.dexspec.proofs.lists.InOrder.{less_is}
pub use Rattle.dexspec.proofs.wellformed.FormedRows.{length-ushorts_at}
pub use Rattle.dexspec.specs.Accepted.{HoldBelow, Holds, HoldsThroughout, IsFrame, number, rows_checked}
pub use Rattle.dexspec.specs.Bytes.{number_of, ushorts_at}
unfoldable pub use Rattle.dexspec.specs.Bytes.{uint_at, ushort_at}
pub use Rattle.dexspec.specs.Conditions.{Condition}
pub use Rattle.dexspec.specs.Header.{FieldIds, MethodIds, ProtoIds, StringIds, TypeIds, table_size}
pub use Rattle.dexspec.specs.Lists.{OrNone}
pub use Rattle.dexspec.specs.Names.{ArrayType, ClassType, IsArray, IsClass, IsDescriptor, IsMemberName, IsPrimitive, IsReferenceType, IsValueType, IsVoid, PrimitiveType, VoidType, primitive_letters, shorty, shorty_letter}
pub use Rattle.dexspec.specs.Rows.{HasField, HasMethod, HasRow, StringRow, TypeListAt, TypeRow, field_row_key, key_cmp, method_row_key, proto_row_key, row_at, type_indices, type_row_key}
pub use Rattle.dexspec.specs.Symbols.{Field, IsField, Method, Proto}
pub use Rattle.dexspec.specs.Texts.{StringDataAt, Text, spelling, text_cmp}
pub use Rattle.dexstr.specs.Units.{IsAscii}
pub use Rattle.dexids.specs.{AllTypes, AreFields, AreMethodNames, AreMethods, AreNames, AreProtos, AreRead, AreTexts, AreTypes, FieldRowAt, HasFieldNumbers, HasIndices, HasMethodNumbers, HasRoom, HasSpan, IsFault, IsListed, IsParameter, IsPlaced, IsPoolRefusal, IsText, IsType, MethodRowAt, ProtoRowAt, ReadTo, TypeRowAt, field_key, field_of, file_numbers, is_above_last, letters_of, listed, method_key, method_of, proto_of, span_of, text_of, type_cmp, type_of}
pub use Rattle.dexids.specs.declared.protos.CheckedList.{CheckedList}
pub use Rattle.dexids.specs.declared.rows.ProtoEntry.{ProtoEntry}
pub use Rattle.dexids.specs.declared.rows.Span.{Span}
pub use Rattle.dexids.specs.internal.CheckedLists.{AreLetters, IsChecked, IsLetter, IsNotVoid, AreThese, IsSpelled, NoVoid, NotListedAs, SpellNumbers, letter_in, letters_in}
pub use Rattle.dexids.specs.internal.ReadRows.{DecidesNext, IsOfPools}
