-- The names from below that the proofs cite, and the definitions of this crate, re-exported from one place. Declares nothing.
pub use Rattle.std.proofs.Common.{List, Ok, [], ap, append_assoc, arith, drop, false, get_or, length, min, refl, rules, subst, sym, take, ℕ, ◌%◌, ◌++◌, ◌+◌, ◌-◌, ◌/◌, ◌<◌, ◌^◌, ◌∙◌, ◌∷◌, ◌≡◌, ◌≤◌}
pub use Rattle.std.proofs.Math.Seq.{take-add}
pub use Rattle.std.proofs.lemmas.List.{append-nil, take_all, take_more}
pub use Rattle.std.proofs.lemmas.List.Elements.{All-get_or}
pub use Rattle.std.specs.List.{flat_map}
pub use Rattle.byteorder.specs.Endian.{little_bytes, little_number}
pub use Rattle.dexspec.proofs.numbers.ByteNumbers.{length-uint, length-ushort}
unfoldable pub use Rattle.dexspec.specs.Bytes.{bytes_of, number_of, uint, ushort}
pub use Rattle.dexio.specs.{HasRoomFor, Pushes, one_byte}
