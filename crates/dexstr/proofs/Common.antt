-- The names from below that the proofs cite, and the definitions of this crate, re-exported from one place. Declares nothing.
pub use Rattle.std.proofs.Common.{All, Bool, Err, IfErr, IfOk, List, None, Ok, OnErr, Option, Result, Some, [], ap, append_assoc, arith, cond, count_by, drop, drop_at, false, get_or, inl, inr, length, length-append, length-drop, length-take, min, nat_eq, refl, rules, subst, suc, sym, take, take-append-drop, take_all, take_at, true, zero, ℕ, ◌%◌, ◌*◌, ◌++◌, ◌+◌, ◌-◌, ◌/◌, ◌<◌, ◌^◌, ◌↔◌, ◌∙◌, ◌∷◌, ◌≡◌, ◌≢◌, ◌≤◌, ◌⊎◌}
pub use Rattle.std.proofs.lemmas.Bool.{and_parts, cases_Bool, cases_eq, cases_lt, cases_order, eq-eqb, eqb-true, false≢true, le-leb, le-ltb, leb-true, lt-ltb, ne_eqb, true≢false}
pub use Rattle.std.proofs.lemmas.Bool.Decides.{Decides-eqb, Decides-like, nat_tests, same_from_decides}
pub use Rattle.std.proofs.lemmas.Grind.{flat_map-append}
pub use Rattle.std.proofs.lemmas.List.{append-nil, append_cancel_left}
pub use Rattle.std.proofs.lemmas.List.Concat.{flat_map-cons}
pub use Rattle.std.proofs.lemmas.List.Elements.{All-append, All-cons, All-drop, All-head, All-push, All-tail}
pub use Rattle.std.specs.Cmp.Lexicographic.{pointwise, same_text, slice_cmp}
pub use Rattle.std.specs.List.{Contains, join_with_byte}
pub use Rattle.std.specs.Prelude.{IfNone, IfSome, is_some, nat_le, replicate, ◌&&◌, ◌==◌}
pub use Rattle.dexspec.proofs.determined.OneText.{One, Shape, Three, Two, one_string_data, one_unit, shape_of}
pub use Rattle.dexspec.proofs.numbers.Spellings.{not_cut_off, same_number}
pub use Rattle.dexspec.specs.Names.{ArrayType, ClassType, HasKind, IsArray, IsClass, IsClassName, IsDescriptor, IsMemberName, IsNameUnit, IsPrimitive, IsVoid, PrimitiveType, TypeKind, VoidType, primitive_letters, shorty_letter}
pub use Rattle.dexspec.specs.Numbers.{BeginsWith, IsUleb128, sum_of_groups, uleb128}
pub use Rattle.dexspec.specs.Texts.{AreUnits, IsStringData, Text, form, spelling, string_data, text_cmp}
pub use Rattle.dexstr.specs.{AfterUnits, BeginsWithAscii, BeginsWithNone, BeginsWithUnit, HasBody, IsAscii, IsBad, IsFault, IsNoTail, IsPart, IsProperPrefix, IsShort, IsSpelling, LooksCutOff, SpellsUnits, StartsWithZero, byte_cmp, dimensions, element_kind, ends_class, is_end, is_primitive_letter, is_void, kind_of, place_of, type_kind, units_of}
