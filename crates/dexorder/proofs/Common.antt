-- The names from below that the proofs cite, re-exported from one place. Declares nothing.
pub use Rattle.std.proofs.Common.{All, Bool, Equal, Greater, Less, List, None, Option, Ordering, Some, [], add-one, ap, append-nil, append_assoc, arith, cond, drop, eqb, false, get_or, get_or-set_other, get_or-set_same, inl, inr, length, length-append, length-set, length-take, map, max, refl, set, slice_index_or, subst, suc, sym, take, true, zero, ℕ, ◌&&◌, ◌++◌, ◌+◌, ◌-◌, ◌<◌, ◌∙◌, ◌∷◌, ◌≡◌, ◌≢◌, ◌≤◌, ◌⊎◌}
pub use Rattle.std.proofs.Math.Seq.{drop-append_seam, get_or-append_seam}
pub use Rattle.std.proofs.lemmas.Bool.{cases_eq, cases_lt, eqb-false, ne_eqb, cases_Bool, both_ways, true_from_ne_false, false_from_ne_true}
pub use Rattle.std.proofs.lemmas.Cmp.{nat_cmp_total, on_total, ranked, then_total, nat_eq_equiv}
pub use Rattle.std.proofs.lemmas.List.{drop-append-le, get_or-map, get_or_append_left, get_or_default, get_or_push, get_or_read, length-drop, length-map, length_push, map-append, take-append-le, take_all, take_more, nil_from_length}
pub use Rattle.std.proofs.lemmas.List.Elements.{All-contains, All-from_get_or, All-get_or, All-head, All-map, All-push, All-tail, Contains-append_cases, Contains-append_left, Contains-append_right, Contains-get_or}
pub use Rattle.std.proofs.lemmas.List.FromFn.{get_or-map-range_with_len, get_or-range_with_len, length-map-range_with_len, length-range_with_len, map-range_with_len_more}
pub use Rattle.std.proofs.lemmas.List.Sorted.{All-permutation, Contains-permutation, IsPermutation-map, IsPermutation-sym}
pub use Rattle.std.proofs.lemmas.List.Sums.{sum_by_push}
pub use Rattle.std.proofs.lemmas.Result.{IfOk-weaker, err_from_is_err_and}
pub use Rattle.std.specs.Cmp.{IsTotalOrder}
pub use Rattle.std.specs.List.{AllPairs, Contains, IsDistinct, filter, flat_map, list_all, range_with_len}
pub use Rattle.std.specs.List.Sorted.{IsPermutation, IsSorted}
pub use Rattle.std.specs.Option.{IsSome, unwrap_or}
pub use Rattle.std.specs.Ordering.{is_lt, nat_cmp, ordering_reverse, ordering_then}
pub use Rattle.std.specs.Prelude.{option_to_list, slice_set}
pub use Rattle.std.proofs.lemmas.List.Folds.{list_all_at, list_all-append}
pub use Rattle.std.proofs.lemmas.Option.{same_Some}
pub use Rattle.std.proofs.lemmas.Simd.{map-map}
pub use Rattle.std.proofs.lemmas.Bool.Decides.{same_from_decides, Decides-eqb}
pub use Rattle.std.proofs.lemmas.Map.Lookups.{exact_unsigned}
pub use Rattle.dexspec.proofs.lists.Members.{AreAmong, AreDistinct-first, AreDistinct-rest, Contains-cons_cases, Contains-first, Contains-later, Contains-nil, and_both, list_all-from_members, list_all-member, list_any-member, length-among}
pub use Rattle.dexspec.proofs.merge.Depths.{Contains-map, depth-is, is_defined-name}
pub use Rattle.dexspec.proofs.normal.ClassPlaces.{Contains-map_source, class_place, class_places-rise, in_class_order-has, in_class_order-only}
pub use Rattle.dexspec.proofs.size.SizeSums.{map-length}
pub use Rattle.dexspec.specs.Classes.{Definition}
pub use Rattle.dexspec.specs.Depth.{HasDepth, IsAcyclic, above, depth, in_class_order, is_below, is_defined, parents, place_cmp}
pub use Rattle.dexspec.specs.Lists.{AreDistinct, present, rises}
pub use Rattle.dexspec.specs.Texts.{Text, same_text, text_cmp}
pub use Rattle.dexspec.proofs.lists.Searches.{some_or_none, AreDistinct-cons}
pub use Rattle.dexspec.proofs.merge.SymbolOrders.{both_tie, text_total, text_exact}
pub use Rattle.dexspec.proofs.sharing.Sharing.{present-append}
