-- The names from below that the proofs cite, re-exported from one place. Declares nothing.
pub use Rattle.std.proofs.Common.{All, Bool, IfNone, IfSome, List, None, Option, Some, T, [], ap, arith, drop, eq-eqb, eqb-true, false, inl, inr, is_lt, is_none, is_some, leb-true, length, ltb-true, map, nat_le, nat_lt, not, refl, replicate, subst, suc, sym, take, true, zero, ℕ, ◌&&◌, ◌++◌, ◌+◌, ◌<◌, ◌==◌, ◌||◌, ◌∙◌, ◌∷◌, ◌≡◌, ◌≢◌, ◌≤◌}
pub use Rattle.std.proofs.lemmas.List.Elements.{All-cons, All-from_recursion, All-nil, All-same, All-weaker}
pub use Rattle.std.proofs.lemmas.List.Sums.{AllPass-from_list_all, count_by-le-length}
pub use Rattle.std.specs.List.{AllByRecursion, AllZip, Contains, flat_map, list_all, list_any, slice_split}
pub use Rattle.std.specs.Prelude.{FitsSigned, codes, cond, if◌then◌else◌, negsuc, pos, slice_index, slice_index_or, ℤ, ◌-◌, ◌^◌, ◌⊎◌}
pub use Rattle.dexspec.proofs.determined.OneRow.{one_string, one_type}
pub use Rattle.dexspec.proofs.lists.Equality.{text_decides}
pub use Rattle.dexspec.proofs.lists.Members.{and_both, and_first, and_second, list_all-member, list_any-member, list_any-source}
pub use Rattle.dexspec.proofs.merge.SymbolOrders.{text_exact, text_total}
pub use Rattle.dexspec.specs.Accepted.{AllCode, AreRows, Declares, HasDebugAt, HasMembers, HasPiecesAt, HasTriesAt, HoldBelow, Holds, HoldsThroughout, IsAccepted, IsDefinedBefore, IsFrame, IsRefused, number, parent_indices, place, rows_checked}
pub use Rattle.dexspec.specs.Annotations.{Annotation, AnnotationSet, Directory, DirectoryAt, no_directory}
unfoldable pub use Rattle.dexspec.specs.Bytes.{bytes_of, number_of, uint, uint_at, ushort, ushort_at}
unfoldable pub use Rattle.dexspec.specs.Canonical.{annotation_offsets, annotation_section, array_section, class_data_section, code_section, debug_section, directory_section, ref_list_section, set_offsets, set_section, string_section, type_list_section, unsigned_file, with_sums}
pub use Rattle.dexspec.specs.ClassData.{ClassData, ClassDataAt, EncodedMethod, ShareNone, methods_of, no_class_data}
pub use Rattle.dexspec.specs.Classes.{Body, ClassListAt, ClassRow, ClassTypeRow, Definition, FieldDef, IndexOrNone, MakesMethod, MethodDef, StaticValuesAt, declared_fields, declared_methods, field_def}
pub use Rattle.dexspec.specs.Code.{AreApart, Code, CodeAt, Handler, IsStart, PiecesAt, Try, handlers_of, handlers_weight, most_handlers}
pub use Rattle.dexspec.specs.Conditions.{Condition}
pub use Rattle.dexspec.specs.Depth.{IsAcyclic, is_below}
unfoldable pub use Rattle.dexspec.specs.Depth.{depth, in_class_order}
pub use Rattle.dexspec.specs.Files.{Collection, Defines, Denotes, definitions}
pub use Rattle.dexspec.specs.Header.{ClassDefs, FieldIds, HasChecksum, HasEndian, HasLengths, HasMagic, HasNoLink, HasSignature, HasSize, HasVersion, IsDigit, MayHave, MethodIds, ProtoIds, StringIds, Table, TypeIds, table_size}
unfoldable pub use Rattle.dexspec.specs.Header.{adler_32}
pub use Rattle.dexspec.specs.Lists.{AreDistinct, OrNone, rises}
pub use Rattle.dexspec.specs.Mentions.{Mentions, texts_in}
unfoldable pub use Rattle.dexspec.specs.Mentions.{mentions, symbols_of}
pub use Rattle.dexspec.specs.Names.{ArrayType, ClassType, IsArray, IsClass, IsClassName, IsDescriptor, IsMemberName, IsNameUnit, IsPrimitive, IsReferenceType, IsValueType, PrimitiveType, VoidType, primitive_letters}
unfoldable pub use Rattle.dexspec.specs.Opcodes.{opcode_of, opcode_runs}
pub use Rattle.dexspec.specs.Pieces.{AreCut, Cut, DenotesPiece, Instruction, IsCode, Payload, Piece, all_of_option, cut_units, index_in, index_pool, is_instruction_start, is_payload_ident, units_of, with_index}
unfoldable pub use Rattle.dexspec.specs.Pieces.{has_right_targets, piece_size}
pub use Rattle.dexspec.specs.Rows.{Follows, MethodRow, ProtoRow, StringRow, TypeRow, type_row_key}
unfoldable pub use Rattle.dexspec.specs.Spellings.{class_data_bytes, code_bytes, debug_bytes}
pub use Rattle.dexspec.specs.Symbols.{Field, FieldPool, FieldSymbol, IsField, IsMethod, IsProto, Method, MethodPool, MethodSymbol, Pool, Proto, ProtoPool, ProtoSymbol, StringPool, Symbol, TextSymbol, TypePool, TypeSymbol, pool_of}
pub use Rattle.dexspec.specs.Texts.{AreUnits, IsStringData, Text, same_text, text_cmp}
pub use Rattle.dexspec.specs.Values.{AnnotationValue, ArrayValue, BooleanValue, ByteValue, CharValue, DoubleValue, Elements, EnumValue, FieldValue, FloatValue, IntValue, LongValue, MethodValue, NoElements, NoValues, NullValue, ShortValue, StringValue, ThenElement, ThenValue, TypeValue, Value, Values, count_values, elements_depth, most_depth, names_of, values_depth}
pub use Rattle.dexspec.specs.Weight.{most_weight}
unfoldable pub use Rattle.dexspec.specs.Weight.{weight}
pub use Rattle.dexspec.specs.WellFormed.{AreElements, ArePieces, AreValues, AreWellFormed, FitsUint, FitsUshort, IsAnnotation, IsCodeItem, IsDebug, IsFieldDef, IsHandlerOf, IsMethodDef, IsOperation, IsSet, IsSymbol, IsText, IsTryOf, IsValue, IsWellFormed, field_key, field_key_cmp, method_key, method_key_cmp}
unfoldable pub use Rattle.sha1.specs.Sha1.{compress, digest_bytes, first_words, hash_after, rounds, schedule, sha1}
pub use Rattle.std.specs.FinMap.{from_entries}
pub use Rattle.std.specs.FinMap.Entries.{is_sorted}
