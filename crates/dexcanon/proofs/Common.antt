-- The names from below that the proofs cite, and the definitions of this crate, re-exported from one place. Declares nothing.
pub use Rattle.std.proofs.Common.{Bool, Err, IfErr, IfOk, List, None, Ok, OnErr, OnOk, Option, Result, Some, [], ap, append-nil, append_assoc, arith, drop, false, get_or, inl, inr, length, map, refl, rules, subst, suc, sym, take, true, w32, ℕ, ◌*◌, ◌++◌, ◌+◌, ◌<◌, ◌^◌, ◌∙◌, ◌∷◌, ◌≡◌, ◌≤◌}
pub use Rattle.std.proofs.Math.Seq.{drop-append-add}
pub use Rattle.std.proofs.lemmas.Grind.{common_steps, fold-append}
pub use Rattle.std.proofs.lemmas.List.{drop-drop, drop_all, drop_at, drop_more, get_or-map, length-append, length-map, length-take, nil_from_length, take-append-drop, take_at}
pub use Rattle.std.specs.List.{Contains, concat, flat_map}
pub use Rattle.std.specs.Prelude.{All, IfSome, is_err, option_to_list, unwrap_or, vec_capacity, vec_len, ◌%◌, ◌/◌, ◌↔◌}
pub use Rattle.dexpool.specs.NumberedSymbols.{text_at, type_at}
pub use Rattle.dexclass.specs.Numbered.{NumberedClass, definition_of}
pub use Rattle.dexclass.specs.Uses.{IsKnownClass}
pub use Rattle.dexio.proofs.Encoded.{Completes, completes_all, completes_more, completes_none}
pub use Rattle.dexhead.specs.Laid.{StatesLayout, after_header, map_list}
pub use Rattle.dexio.specs.Pushing.{HasRoomFor, Pushes}
pub use Rattle.dexhead.specs.Sums.{with_sums_set}
pub use Rattle.dexhead.specs.Written.{StatesTables}
unfoldable pub use Rattle.dexhead.specs.Written.{field_bytes, head_bytes}
pub use Rattle.dexhead.specs.declared.head.Head.{Head}
pub use Rattle.dexlayout.specs.Laid.{AreWritable, IsLaid, file_end, ordered_of}
pub use Rattle.dexlayout.specs.Places.{EncodedItems, EncodedSharedItems, ItemPlaces, Places, SetPlaces, SharedPlaces}
pub use Rattle.dexpool.proofs.UnionLaws.{ranks_are_numbers}
pub use Rattle.dexpool.specs.Laws.{RanksAreNumbers}
pub use Rattle.dexspec.proofs.layout.Placements.{length-array_offsets, length-class_data_offsets, length-class_offsets, length-directory_offsets, length-type_list_offsets, length-zip_with, sections_follow}
pub use Rattle.dexspec.proofs.layout.SectionPlaces.{class_at, get_or-zip_with}
pub use Rattle.dexspec.proofs.layout.Tables.{length-header_bytes, length-table_bytes}
pub use Rattle.dexspec.proofs.numbers.ByteNumbers.{length-uint, length-ushort}
pub use Rattle.dexspec.proofs.size.SizeItems.{sleb128-size, uleb128-size}
pub use Rattle.dexspec.specs.Bytes.{padding, round_up, uint, ushort}
pub use Rattle.dexspec.specs.Canonical.{array_section, class_data_section, class_offsets, class_row_bytes, data_sections, data_start, directory_section, field_row_bytes, header_bytes, magic, method_row_bytes, ordered, proto_row_bytes, table_bytes, type_list_section, unsigned_file}
unfoldable pub use Rattle.dexspec.specs.Canonical.{canonical, string_section, with_sums}
pub use Rattle.dexspec.specs.Classes.{Definition, no_index}
pub use Rattle.dexspec.specs.Files.{Collection, Defines, Denotes, IsCollectionOf, definitions}
pub use Rattle.dexspec.specs.Header.{adler_number, adler_step, adler_sums, header_length}
unfoldable pub use Rattle.dexspec.specs.Header.{adler_32}
pub use Rattle.dexspec.specs.Lists.{zip_with}
pub use Rattle.dexspec.specs.Mentions.{Mentions, mentions}
pub use Rattle.dexspec.specs.Numbers.{sleb128, uleb128}
pub use Rattle.dexspec.specs.Placing.{Ordered, end, offsets, section_bytes, uses_offsets}
pub use Rattle.dexspec.specs.Spellings.{proto_index, text_index, type_index}
pub use Rattle.dexspec.specs.Texts.{Text, string_data}
pub use Rattle.sha1.specs.Sha1.{sha1}
pub use Rattle.dexout.specs.Output.{Adds, HasWritten, adds_both}
pub use Rattle.dexout.specs.Took.{TookPrefix, took_nothing}
pub use Rattle.dexout.specs.Written.{HasLeft}
pub use Rattle.dexcanon.specs.{IsFileAlone, IsReady, after_header_of, class_alone, class_row, no_offsets, ordered_in, rows_with, signed_of}
unfoldable pub use Rattle.dexcanon.specs.{class_digest}
