-- The names from below that the proofs cite, and the definitions of this crate, re-exported from one place. Declares nothing.
pub use Rattle.std.proofs.Common.{All, Bool, IsTrue, List, Ok, [], ap, append_assoc, arith, drop, false, get_or, inl, inr, length, map, min, refl, rules, subst, suc, sym, take, true, zero, ℕ, ◌%◌, ◌&&◌, ◌*◌, ◌++◌, ◌+◌, ◌-◌, ◌/◌, ◌<◌, ◌^◌, ◌↔◌, ◌∙◌, ◌∷◌, ◌≡◌, ◌≢◌, ◌≤◌, ◌⊎◌}
pub use Rattle.std.proofs.Math.Seq.{drop-append-add, take-add}
pub use Rattle.std.proofs.lemmas.Bool.{and_from, and_parts, cases_lt}
pub use Rattle.std.proofs.lemmas.List.{append-nil, drop-drop, drop_at, drop_more, get_or-map, get_or-take, length-map, length-take-le, map-append, take-append-le, take-take, take_all, take_at, take_more, take_rest}
pub use Rattle.std.proofs.lemmas.List.Elements.{All-contains, All-get_or, All-map, All-more, Contains-get_or}
pub use Rattle.std.proofs.lemmas.List.Folds.{flat_map-map}
pub use Rattle.std.proofs.lemmas.List.FromFn.{get_or-range_with_len}
pub use Rattle.std.specs.List.{Contains, flat_map, range_with_len}
pub use Rattle.byteorder.specs.Endian.{little_bytes, little_number}
pub use Rattle.dexspec.proofs.numbers.ByteNumbers.{length-uint, length-ushort, uint_at-encodes}
pub use Rattle.dexspec.proofs.written.PlacedBytes.{is_at, is_at_first, is_at_later, length_rows}
pub use Rattle.dexspec.specs.Accepted.{HoldBelow, Holds, IsFrame, IsRefused, number, place, rows_checked}
pub use Rattle.dexspec.specs.Bytes.{uint_at, ushort_at}
unfoldable pub use Rattle.dexspec.specs.Bytes.{bytes_of, number_of, uint, ushort}
pub use Rattle.dexspec.specs.Canonical.{header_bytes, magic, map_bytes, map_entry_bytes, placed_tables}
unfoldable pub use Rattle.dexspec.specs.Canonical.{unsigned_file, with_sums}
pub use Rattle.dexspec.specs.Conditions.{Condition}
pub use Rattle.dexspec.specs.Header.{ClassDefs, FieldIds, HasChecksum, HasEndian, HasLengths, HasMagic, HasNoLink, HasSignature, HasSize, HasVersion, MayHave, MethodIds, ProtoIds, StringIds, Table, TypeIds, adler_32, adler_sums, data_off, data_size, file_size, header_length, row_size, table_off, table_size, tables, version}
pub use Rattle.dexspec.specs.Sections.{AnnotationItems, AnnotationSetRefLists, AnnotationSets, AnnotationsDirectories, AreLaidOut, ClassDataItems, CodeItems, DebugInfoItems, EncodedArrayItems, HasLayout, HasMap, HasTable, HeaderItem, IsKnown, IsPlaced, MapEntry, MapList, Section, StringDataItems, TableOf, TypeLists, entries_at, map_entries, type_code}
pub use Rattle.sha1.specs.Sha1.{sha1}
pub use Rattle.dexhead.specs.{AreFew, AreInOrder, AreRight, BeginsWithHeader, HaveTables, IsCode, IsEarly, IsInPlace, IsLaidOut, IsNext, IsThere, StatesLayout, StatesTables, after_header, entry_meant, entry_of, map_start, meant, read, rows_bytes, rows_meant}
unfoldable pub use Rattle.dexhead.specs.{entries, field_bytes, has_signature, head_bytes, signed, with_sums_set}
