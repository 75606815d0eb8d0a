-- The names from below that the proofs cite. Declares nothing.
pub use Rattle.std.proofs.Common.{Bool, Err, IfErr, IfOk, List, None, Ok, OnErr, OnOk, Option, Result, Some, [], ap, append-nil, append_assoc, arith, drop, false, get_or, inl, inr, length, map, refl, rules, subst, suc, sym, take, true, w32, ℕ, ◌*◌, ◌++◌, ◌+◌, ◌<◌, ◌^◌, ◌∙◌, ◌∷◌, ◌≡◌, ◌≤◌}
pub use Rattle.std.proofs.lemmas.Grind.{common_steps}
pub use Rattle.std.proofs.lemmas.List.{nil_from_length, take-append-drop}
pub use Rattle.std.specs.Prelude.{is_err, vec_capacity, vec_len, ◌↔◌}
pub use Rattle.dexio.proofs.Encoded.{Completes, completes_all, completes_more, completes_none}
pub use Rattle.dexio.specs.Pushing.{HasRoomFor, Pushes}
pub use Rattle.dexspec.proofs.numbers.ByteNumbers.{length-uint, length-ushort}
pub use Rattle.dexspec.proofs.size.SizeItems.{sleb128-size, uleb128-size}
pub use Rattle.dexspec.specs.Bytes.{uint, ushort}
pub use Rattle.dexspec.specs.Numbers.{sleb128, uleb128}
pub use Rattle.dexout.specs.{Adds, HasLeft, HasRoom, HasWritten, TookPrefix, adds_both, adds_nothing, result_of, took_nothing}
