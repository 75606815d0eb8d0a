-- The names from below that the proofs cite, re-exported from one place. Declares nothing.
pub use Rattle.std.proofs.Common.{Bool, Bor, Global, Less, List, None, Option, Some, Vec, [], ap, arith, cond, drop, false, get_or, if◌then◌else◌, inl, inr, leb, length, length-take, map, max, min, not, refl, replicate, rules, subst, suc, sum_by, sym, take, true, zero, ℕ, ◌&&◌, ◌*◌, ◌++◌, ◌+◌, ◌-◌, ◌<◌, ◌^◌, ◌||◌, ◌∙◌, ◌∷◌, ◌≡◌, ◌≢◌, ◌≤◌}
pub use Rattle.std.proofs.lemmas.Bool.{cases_eq, cases_lt, cases_order, false≢true, le-leb, lt-ltb, ltb-false, ltb-true, not-true, not-false, le-ltb, lt-leb, false_from_ne_true, cond_both}
pub use Rattle.std.proofs.lemmas.Grind.{flat_map-append}
pub use Rattle.std.proofs.lemmas.Iterator.Adapters.{YieldsList-from_vec}
pub use Rattle.std.proofs.lemmas.Iterator.Consumers.{YieldsList-end, YieldsList-turn}
pub use Rattle.std.proofs.lemmas.List.{append-nil, append_assoc, get_or-map, get_or-set_other, get_or-set_same, get_or_default, length-append, length-drop, length-map, length-replicate, length-set, map-append, map-id, take_all, take_more}
pub use Rattle.std.proofs.lemmas.List.Elements.{All-append, All-cons, All-map, All-nil, All-push, All-weaker, Contains-append_cases, Contains-append_left, Contains-append_right, Contains-get_or, Contains-push_cases, Contains-push, All-contains, All-tail}
pub use Rattle.std.proofs.lemmas.Result.{IfErr-weaker, IfOk-weaker, err_from_is_err_and}
pub use Rattle.std.specs.List.{AllZip, Contains, flat_map, list_any}
pub use Rattle.std.specs.Prelude.{All, Err, IfErr, IfSome, IsSome, IsTrue, MatchBool, MatchOption, Result, nat_lt, option_to_list, slice_index_or, slice_set, vec_len, ◌↔◌}
pub use Rattle.std.proofs.lemmas.Option.{same_Some}
pub use Rattle.std.proofs.lemmas.Simd.{map-map}
pub use Rattle.std.proofs.lemmas.List.Folds.{flat_map-map}
pub use Rattle.dexclass.proofs.Places.{places_all, places_some}
pub use Rattle.dexpool.specs.NumberedSymbols.{type_at}
pub use Rattle.dexclass.specs.Numbered.{NumberedClass, definition_of}
pub use Rattle.dexclass.specs.Parents.{AreDepthsByName, ArePlaces, IsHierarchy, name_number, no_class, parent_numbers}
pub use Rattle.dexclass.specs.Programs.{AreClassesOf, AreMergeable}
pub use Rattle.dexclass.specs.Renumbering.{ClassHasPlaces, IsMappedClass, IsPartClass, MapsAllInto, StaysSame, image_or_same, renumbered_class}
pub use Rattle.dexclass.specs.Uses.{IsKnownClass, text_numbers, text_use, type_numbers, type_use}
pub use Rattle.dexcode.specs.Numbered.{NumberedItem}
pub use Rattle.dexcode.specs.Renumbering.{HasImages, renumbered_item}
pub use Rattle.dexinsn.proofs.Fits.{short_denoted, short_named, shorts_remapped}
pub use Rattle.dexinsn.specs.Fitting.{HasConstString, ImagesFit, IsGreatest, IsNotTooLarge, MapsShort, is_short_string, is_text, short_string}
pub use Rattle.dexmembers.specs.Fitting.{code_short_strings, members_short_strings, method_short_strings}
pub use Rattle.dexmembers.specs.Numbered.{AreKnownMembers, IsKnownMethod, NumberedMembers, NumberedMethod, method_in, methods_of}
pub use Rattle.dexmembers.specs.Renumbering.{MembersHavePlaces, renumbered_members, renumbered_method}
pub use Rattle.dexmembers.specs.Uses.{members_uses}
pub use Rattle.dexorder.specs.Depths.{AreDepths, IsDepthOrNone}
pub use Rattle.dexorder.specs.Parents.{AllHaveDepths, AreByType, IsFirstWithout, IsHierarchyOf}
pub use Rattle.dexpool.proofs.Parts.{all_back}
pub use Rattle.dexpool.specs.Laws.{MapsAll}
pub use Rattle.dexpool.specs.Numberings.{AllMapTo, AreIn, AreRising, IsAt, Maps, image, image_of, union_of}
pub use Rattle.dexpool.specs.Orderly.{KeepOrder}
pub use Rattle.dexpool.specs.Uses.{IsMappedUse}
pub use Rattle.dexspec.proofs.lists.InOrder.{Rises-from_rises, rank-get_or, rises-from_Rises}
pub use Rattle.dexspec.proofs.lists.Members.{Contains-cons_cases, Contains-first, Contains-flat_map, Contains-flat_map_source, Contains-later, Contains-nil, list_any-member, list_any-source, AreAmong}
pub use Rattle.dexspec.proofs.merge.Absorption.{HasShortString-within, IsCause-within, IsGood-within}
pub use Rattle.dexspec.proofs.merge.Conflicts.{consistent-apart}
pub use Rattle.dexspec.proofs.merge.Depths.{Contains-map, acyclic-apart, depth-same}
pub use Rattle.dexspec.proofs.merge.FirstCauses.{first_cause-same}
pub use Rattle.dexspec.proofs.merge.Growth.{mentions-rising, mentions-same}
pub use Rattle.dexspec.proofs.merge.SymbolOrders.{text_total}
pub use Rattle.dexspec.proofs.normal.ClassOrder.{definitions-distinct}
pub use Rattle.dexspec.proofs.normal.ClassPlaces.{Contains-map_source, in_class_order-has, in_class_order-only}
pub use Rattle.dexspec.specs.Classes.{Body, Definition, MethodDef, declared_methods}
pub use Rattle.dexspec.specs.Depth.{IsAcyclic, depth, in_class_order, is_defined}
pub use Rattle.dexspec.specs.Files.{AreSame, AreWithin, Collection, IsCollectionOf, definitions}
pub use Rattle.dexspec.specs.Lists.{AreDistinct, present, rank}
pub use Rattle.dexspec.specs.Mentions.{Mentions, mentions}
pub use Rattle.dexspec.specs.Merging.{AreCaps, AreLeaves, Cap, Caps, Cause, Conflict, Cycle, Exceeded, Exceeds, FieldCap, HasShortString, IsCause, IsConflict, IsConsistent, IsCycle, IsFirstCause, IsGood, IsPlanFor, IsReportedBefore, Leaf, MethodCap, Node, Plan, ProtoCap, ShortStringCap, TypeCap, WeightCap, all_leaves, cap_number, greatest_caps, leaves, plan_depth, plans_depth}
pub use Rattle.dexspec.specs.Symbols.{TextSymbol, field_cmp, method_cmp, proto_cmp}
pub use Rattle.dexspec.specs.Texts.{Text, same_text, text_cmp}
pub use Rattle.dexspec.specs.Weight.{body_weight, mentions_weight}
unfoldable pub use Rattle.dexspec.specs.Weight.{weight}
pub use Rattle.dexspec.specs.WellFormed.{AreWellFormed, IsWellFormed}
pub use Rattle.dexspec.proofs.lists.Mapped.{AreAmong-append, AreAmong-refl}
pub use Rattle.dexspec.proofs.merge.MentionMembers.{one_member}
pub use Rattle.dexpool.proofs.Pairs.{zip_at, zip_length, map_both}
pub use Rattle.dexspec.proofs.sharing.Sharing.{present-append, present_source}
pub use borrow.Author.Count.{below_more}
