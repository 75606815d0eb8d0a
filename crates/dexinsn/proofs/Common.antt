-- The names from below that the proofs cite, re-exported from one place. Declares nothing.
pub use Rattle.std.proofs.Common.{Bool, Err, Global, IsSome, List, None, Ok, Option, Result, Some, Vec, [], add-one, add-zero, add_assoc, ap, append_assoc, arith, below_more, cond, drop, drop-cons, eq-eqb, eqb-true, false, get_or, get_or-set_other, if◌then◌else◌, inl, inr, length, length-append, length-drop, ltb, ltb-false, ltb-true, map, max, nat_eq, nat_le, nat_lt, ne_eqb, not, of_z, pos, refl, replicate, rules, set, slice_index, slice_set, subst, suc, sym, take, to_z, true, w32, w64, zero, zero-add, ℕ, ℤ, ◌%◌, ◌&&◌, ◌*◌, ◌++◌, ◌+ℤ◌, ◌+◌, ◌-ℤ◌, ◌-◌, ◌/◌, ◌<ℤ◌, ◌<◌, ◌==◌, ◌^◌, ◌||◌, ◌∙◌, ◌∷◌, ◌≡◌, ◌≢◌, ◌≤ℤ◌, ◌≤◌}
pub use Rattle.std.proofs.lemmas.Bool.{and_from, and_parts, and_right, cases_eq, cases_lt, cond-false, false_from_ne_true, le-leb, leb-true, or_parts}
pub use Rattle.std.proofs.lemmas.Grind.{common_steps, same_number_lists}
pub use Rattle.std.proofs.lemmas.Int.{ints, to_z-of_z}
pub use Rattle.std.proofs.lemmas.List.{append-nil, drop-drop, drop-set-lt, drop-take, drop_all, get_or-append_right, get_or-drop, get_or-map, get_or-replicate, get_or-set_same, get_or-take, get_or_append_left, get_or_past, get_or_read, length-map, length-replicate, length-set, length-take-le, map-append, map_more, nil_from_length, take-append-drop, take-take, take_all, take_more, take_more_set}
pub use Rattle.std.proofs.lemmas.List.Concat.{flat_map-append}
pub use Rattle.std.proofs.lemmas.List.Elements.{All-append, All-cons, All-from_get_or, All-get_or, All-head, All-more, All-nil, All-pop, All-push, All-same, All-tail, All-weaker, Contains-append_cases, Contains-append_left, Contains-append_right}
pub use Rattle.std.proofs.lemmas.List.Folds.{Any-from_list_any, list_all_more, list_any-append, list_any_at}
pub use Rattle.std.proofs.lemmas.List.FromFn.{get_or-map-range_with_len}
pub use Rattle.std.proofs.lemmas.List.Sorted.{All-permutation, IsPartitionPoint-from_clause, IsPartitionedBy-ltb, IsPermutation-sym}
pub use Rattle.std.proofs.lemmas.Nat.Bits.{bit_at-lt, bit_at-pow_other, bit_at-pow_same, bit_at-trailing_zeros, bit_at-zero, bit_at_above, bit_at_and, bit_at_cat_high, bit_at_cat_low, bit_at_not, bit_at_or, bit_at_set_other, bit_at_set_same, same_from_bits_below}
pub use Rattle.std.proofs.lemmas.Option.{cond_some, option_and_then_some, same_Some}
pub use Rattle.std.specs.Bool.{IsTrue}
pub use Rattle.std.specs.Int.{bit_at, bit_not, from_bool, trailing_zeros}
pub use Rattle.std.specs.List.{All, AllZip, Any, Contains, FoldsTo, find, flat_map, list_all, list_any, range_with_len}
pub use Rattle.std.specs.List.Sorted.{IsNonDecreasingBy, IsPermutation}
pub use Rattle.std.specs.Option.{MatchOption, is_some, option_and_then, option_map, option_map_or, unwrap_or}
pub use Rattle.std.specs.Ordering.{int_cmp, int_eq, is_lt}
pub use Rattle.std.specs.Prelude.{IfOk, bit_and, bit_or, vec_capacity, ◌↔◌, ◌⊎◌, IfErr}
pub use lib.IntN.{nat_abs, negsuc}
pub use mir.Val.{SFits}
pub use Rattle.dexio.proofs.Encoded.{Completes, completes_more, completes_none}
pub use Rattle.dexpool.proofs.Visits.{one_each, visited_all, visited_more}
pub use Rattle.dexpool.specs.Numberings.{AllMapTo, AreMarksOf, AreRising, IsAt, IsNumbered, IsOfKind, Maps, MapsTo, image, image_of}
pub use Rattle.dexpool.specs.Pools.{ArePools, count_of}
pub use Rattle.dexpool.specs.Uses.{HasMark, IsMappedUse, IsUseOf, Use, marks_of}
pub use Rattle.dexpool.specs.declared.symbols.SymbolKind.{SymbolKind}
pub use Rattle.dexspec.proofs.lists.Members.{and_first, and_second, Contains-cons_cases, Contains-first, Contains-later, Contains-nil}
pub use Rattle.dexspec.proofs.wellformed.Blanked.{if_false, if_true, piece_bounds, InstructionPiece, Kept, piece_is, piece_same, units_by}
pub use Rattle.dexspec.proofs.wellformed.BlankedCode.{found_passes, mapped_some}
pub use Rattle.dexspec.proofs.wellformed.FormedRows.{length-ushorts_at}
pub use Rattle.dexspec.specs.Bytes.{ushorts_at}
unfoldable pub use Rattle.dexspec.specs.Bytes.{bytes_of, number_of, uint, uint_at, ushort, ushort_at}
pub use Rattle.dexspec.specs.Code.{PiecesAt, RegistersAt}
pub use Rattle.dexspec.specs.Lists.{rank, rises}
pub use Rattle.dexspec.specs.Mentions.{Mentions, piece_symbols}
pub use Rattle.dexspec.specs.Opcodes.{F10t, F10x, F11n, F11x, F12x, F20t, F21c, F21h, F21s, F21t, F22b, F22c, F22s, F22t, F22x, F23x, F30t, F31c, F31i, F31t, F32x, F35c, F3rc, F51l, Format, Opcode, OpcodeRun, is_in_run, units_in}
unfoldable pub use Rattle.dexspec.specs.Opcodes.{opcode_of, opcode_runs}
pub use Rattle.dexspec.specs.Pieces.{AreCut, Cut, DenotesPiece, IsCode, Piece, all_of_option, array_data_ident, branch_offset, cut_units, element_count, element_width, index_in, index_pool, instruction_size, int_in, ints_in, is_first_unit, is_instruction_start, is_payload_ident, is_payload_in_order, is_right_target, is_wide_index, low_byte, packed_switch_ident, payload_ident, payload_size, payload_targets, payload_units, sparse_switch_ident, two_units, with_index}
unfoldable pub use Rattle.dexspec.specs.Pieces.{has_right_targets, piece_size}
pub use Rattle.dexspec.specs.Sections.{IsInData}
pub use Rattle.dexspec.specs.Symbols.{Field, FieldPool, FieldSymbol, Method, MethodPool, MethodSymbol, Pool, Proto, ProtoPool, ProtoSymbol, StringPool, Symbol, TextSymbol, TypePool, TypeSymbol, field_cmp, method_cmp, pool_of, proto_cmp}
pub use Rattle.dexspec.specs.Texts.{Text, text_cmp}
pub use Rattle.dexinsn.specs.{AreAllRight, AreBitsOf, AreCodeIndices, AreCodeStarts, AreCutWith, AreNoted, ArePassed, ArePiecesAt, AreStartsAt, AreStored, AreTheIndices, AreUnitsAt, BreaksAt, Denote, FitPlaces, FitsAt, FitsPlace, Follow, HasBadTargetAt, HasCodeRoom, HasConstString, HasImage, HasNoBit, HasNoCode, HasNoStep, HasPiecesOf, HasPlaceAt, HasTargetsAt, HaveIndices, ImagesFit, IndexCount, Instruction, IsChecked, IsCodeFault, IsCountBefore, IsFault, IsGreatest, IsInRange, IsIndexed, IsListing, IsNextBit, IsNotTooLarge, IsOutside, IsPieceAt, IsPiecesFault, IsPlainRow, IsResult, IsReturned, IsRowOf, IsShapeAt, IsStep, ListsFirst, MapsShort, NumberedPiece, Rise, after_index, are_right_targets, begins_instruction, bits_from, blank_units, branches, branches_right, count_of_index, covers, cut_of, cuts_from, cuts_of, first_bad_target, first_bad_target_of, first_number, format_of, greatest_at, greatest_first, has_bit, has_targets, ident_of, index_places, index_room, index_units, indices_at, is_noted, is_short_string, is_text, kind_from, kind_in, kind_of_index, kind_of_pool, left_by, limit_of, listed, numbered_units, parts_in, payload_shown, piece_uses, piece_with, pieces_with, renumbered, renumbered_index, renumbered_piece, short_at, short_number, short_string, short_strings, spelled_from, starts_with, symbol_by, targets_payload, unit_count, units_of, units_of_all, use_at, uses_of, with_index_at, with_place, IsKnownPiece, piece_in}
unfoldable pub use Rattle.dexinsn.specs.{bits_in, cuts_in, listing, numbered_bytes}
pub use Rattle.dexinsn.specs.Numbered.{Payload}
pub use Rattle.dexinsn.specs.declared.code.SplitFault.TheVariants.{Empty, Target}
pub use Rattle.dexinsn.specs.declared.opcodes.Row.{Row}
pub use Rattle.dexinsn.specs.declared.payload.PayloadKind.{PayloadKind}
pub use Rattle.dexinsn.specs.declared.pieces.Index.{Index}
pub use Rattle.dexinsn.specs.declared.shape.PiecesShape.{PiecesShape}
pub use Rattle.dexinsn.specs.declared.target_group.TargetGroup.{TargetGroup}
pub use Rattle.dexinsn.specs.internal.{Agree, AgreeBeside, AllFrom, AllInGroup, AreEqualMapped, AreEquivalent, AreGrouped, ArePayloads, AreStartBits, EndsEmpty, HasNumbersOf, HasPlaces, IsSplitFault, bytes_between, unit_of}
unfoldable pub use Rattle.dexinsn.specs.internal.{HasBit}
