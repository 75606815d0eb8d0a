-- The names of std that proofs cite, and the types of dexspec that are spelled like their modules, re-exported from one
-- place. Declares nothing.
pub use Rattle.std.proofs.Common.{All, Bool, Bor, Equal, Err, Global, Greater, IfErr, IfNone, IfOk, IfSome, IsSome, IsTrue, Less, List, None, Ok, OnErr, OnOk, Option, Ordering, Result, Some, T, Vec, [], add-one, add-zero, add_assoc, ap, append-nil, append_assoc, arith, below_more, codes, cond, count_by, drop, drop-cons, drop_at, eq-eqb, eqb, eqb-true, false, flat_map, fold, get_or, get_or-set_other, get_or-set_same, if◌then◌else◌, inl, inr, is_eq, is_lt, is_none, is_some, leb, leb-true, length, length-append, length-drop, length-set, length-take, length-take-le, lt-ltb, ltb, ltb-false, ltb-true, map, max, min, nat_abs, nat_cmp, nat_eq, nat_le, nat_lt, ne_eqb, not, of_calls, of_z, option_to_list, pos, refl, replicate, rules, set, slice_index, slice_index_or, slice_set, string_bytes, subst, suc, sum_by, sym, take, take-append-drop, take_all, take_at, to_z, true, unwrap_or, vec_len, w32, w64, zero, zero-add, zip, ℕ, ℤ, ◌%◌, ◌&&◌, ◌*◌, ◌++◌, ◌+ℤ◌, ◌+◌, ◌-ℤ◌, ◌-◌, ◌/◌, ◌<ℤ◌, ◌<◌, ◌==◌, ◌^◌, ◌||◌, ◌↔◌, ◌∙◌, ◌∷◌, ◌≡◌, ◌≢◌, ◌≤ℤ◌, ◌≤◌, ◌⊎◌}
pub use Rattle.std.proofs.Math.ListN.{drop_of_length-le, get_or-append, get_or-eq_default}
pub use Rattle.std.proofs.Math.Nat.{div-add-mod, div-le_self, div-lt_iff_lt-mul, eq-or-lt_of_le, lt_of_mul-lt-mul_right, mod-eq_of_lt, mul-div_cancel_left, mul-le-mul_left, mul-le-mul_right, mul-lt-mul_of_pos_right, mul-mod_right, mul-suc, mul_assoc, mul_comm, pow-le-pow_right, pow-suc, two-pow-succ}
pub use Rattle.std.proofs.Math.Seq.{drop-append-add, drop-append_seam, get_or-append_seam, take-add, take-append-add, take-suc-set}
pub use Rattle.std.proofs.lemmas.Bool.{and_parts, both_ways, cases_Bool, cases_eq, cases_lt, cases_order, cond-false, cond-true, cond_both, eqb-false, false_from_ne_true, false≢true, le-leb, le-ltb, lt-leb, not-true, true≢false}
pub use Rattle.std.proofs.lemmas.Bool.Decides.{Decides-eqb, Decides-int_eq, Decides-like, nat_tests, same_from_decides}
pub use Rattle.std.proofs.lemmas.Cmp.{lists_total, nat_cmp_total, nat_list_cmp_total, on_total, ranked, then_total, tied_itself}
pub use Rattle.std.proofs.lemmas.Grind.{common_steps, div_ceil_times, drop_more_same, same_number_lists}
pub use Rattle.std.proofs.lemmas.Int.{ints, to_z-of_z}
pub use Rattle.std.proofs.lemmas.List.{append_cancel_left, drop-append-le, drop-drop, drop-map, drop-set, drop-set-lt, drop-take, drop_all, drop_more, ext_get_or, get_or-append-add, get_or-append_right, get_or-drop, get_or-map, get_or-replicate, get_or-take, get_or_append_left, get_or_default, get_or_past, get_or_push, get_or_read, length-map, length-replicate, length_push, map-append, map-id, map_more, map_push, nil_from_length, places, set-get_or, set-set, take-append-le, take-map, take-set-le, take-take, take_more, take_more_set, take_rest, with_items_is}
pub use Rattle.std.proofs.lemmas.List.Concat.{flat_map-append, flat_map-cons, get_or-flat_map, length-flat_map}
pub use Rattle.std.proofs.lemmas.List.Elements.{All-append, All-cons, All-contains, All-contains_itself, All-drop, All-from_get_or, All-from_recursion, All-get_or, All-head, All-map, All-more, All-nil, All-pop, All-push, All-same, All-set, All-tail, All-take, All-weaker, Contains-append_cases, Contains-append_left, Contains-append_right, Contains-get_or, Contains-push, filter-append, filter_agree}
pub use Rattle.std.proofs.lemmas.List.Folds.{Any-from_list_any, flat_map-map, length-flat_map-take, list_all-append, list_all_more, list_any-append, list_any_at}
pub use Rattle.std.proofs.lemmas.List.FromFn.{get_or-map-range_with_len, get_or-range_with_len, length-map-range_with_len, length-range_with_len, map-range_with_len_more}
pub use Rattle.std.proofs.lemmas.List.Sorted.{All-permutation, Contains-permutation, IsPartitionPoint-from_clause, IsPartitionedBy-ltb, IsPermutation-map, IsPermutation-sym, answers_always, length_permutation}
pub use Rattle.std.proofs.lemmas.List.Sums.{AllPass-from_list_all, count_by-le-length, fails_before_first, fold-append, get_or-le-sum_by, list_all-from_AllPass, passes_at_first, position_or_len_is, sum_by-append, sum_by-cons, sum_by-le-sum_by, sum_by_more, sum_by_push}
pub use Rattle.std.proofs.lemmas.Nat.{and_le_l, and_le_r, and_mod, and_shr, mod_below, pow-add, pow_pos, shr-shr, shr_split}
pub use Rattle.std.proofs.lemmas.Nat.Bits.{and_pow, bit_at-lt, bit_at-pow_other, bit_at-pow_same, bit_at-trailing_zeros, bit_at-zero, bit_at_above, bit_at_and, bit_at_cat_high, bit_at_cat_low, bit_at_not, bit_at_or, bit_at_set_other, bit_at_set_same, same_from_bits_below}
pub use Rattle.std.proofs.lemmas.Option.{cond_some, get_or_from_slice_get, option_and_then_some, same_Some}
pub use Rattle.std.proofs.lemmas.Result.{IfErr-weaker, IfOk-weaker, err_from_is_err_and, on_ok_weaker}
pub use Rattle.std.proofs.lemmas.Slice.Eq.{bytes_eq-Decides, slice_eq-Decides}
pub use Rattle.std.specs.Bool.{Decides, one_answer}
pub use Rattle.std.specs.Cmp.{Equal-is, IsEquivalence, IsTotalOrder, first_so, nat_cmp_is, ranks, second_so, signed_Decides, unsigned_Decides}
pub use Rattle.std.specs.Cmp.Lexicographic.{pointwise, pointwise_decides, same_text, slice_cmp}
pub use Rattle.std.specs.Int.{bit_at, bit_not, bytes_low_first, cast_signed, div_ceil, from_bool, to_be_bytes, trailing_zeros, w16, w8}
pub use Rattle.std.specs.List.{AllByRecursion, AllPairs, AllZip, Any, Contains, FoldsTo, HoldsAt, IsDistinct, SwappedAt, concat, filter, find, join_with_byte, list_all, list_any, position_or_len, range_with_len, slice_split, swap}
pub use Rattle.std.specs.List.Sorted.{IsBinarySearchResult, IsNonDecreasingBy, IsPartitionPoint, IsPermutation, IsSearchInRange, IsSorted}
pub use Rattle.std.specs.Option.{MatchOption, SomeIff, option_and_then, option_eq, option_flatten, option_map, option_map_or}
pub use Rattle.std.specs.Ordering.{MatchOrdering, eq_by_cmp, int_cmp, int_eq, ordering_index, ordering_reverse, ordering_then}
pub use Rattle.std.specs.Prelude.{FitsSigned, IsErr, MatchBool, bit_and, bit_or, is_err, negsuc, slice_get, vec_capacity}
pub use Rattle.std.specs.Result.{IsOk, is_ok, result_ok}
pub use Rattle.dexspec.specs.Mentions.{Mentions}
pub use Rattle.dexspec.specs.Values.{Values}
pub use Rattle.dexspec.specs.ClassData.{ClassData}
pub use Rattle.dexspec.specs.Code.{Code}
pub use Rattle.dexspec.specs.Debug.{Debug}
