-- The names from below that the proofs cite, re-exported from one place. Declares nothing.
pub use Rattle.std.proofs.Common.{Equal, Greater, Less, List, Ordering, [], ap, arith, drop, false, get_or, inl, inr, length, map, min, refl, set, slice_index, subst, suc, sym, take, true, zero, ℕ, ◌*◌, ◌++◌, ◌+◌, ◌-◌, ◌/◌, ◌<◌, ◌∙◌, ◌∷◌, ◌≡◌, ◌≤◌}
pub use Rattle.std.proofs.lemmas.Bool.{cases_lt, cases_order}
pub use Rattle.std.proofs.lemmas.List.{drop-set-lt, drop_more, get_or-drop, get_or-map, get_or_append_left, get_or_default, get_or_push, length-map, length_push, map-append, take_more, take_more_set, with_items_is}
pub use Rattle.std.proofs.lemmas.List.Elements.{All-cons, All-contains, All-head, All-nil, All-push, All-tail, All-weaker, Contains-append_left, Contains-append_right}
pub use Rattle.std.specs.Cmp.{IsTotalOrder, nat_cmp_is}
pub use Rattle.std.specs.List.{All, AllZip}
pub use Rattle.std.specs.Ordering.{is_lt, nat_cmp, ordering_reverse, ordering_then}
pub use Rattle.dexspec.proofs.lists.Members.{Contains-first, Contains-later, Contains-nil, and_both, and_first, and_second}
pub use Rattle.dexspec.proofs.wellformed.FormedRows.{length-ushorts_at}
pub use Rattle.dexspec.specs.Bytes.{ushort_at, ushorts_at}
pub use Rattle.dexspec.specs.Rows.{key_cmp}
