use Rattle.dexval.proofs.Common.{◌≡◌, ◌+◌, ◌∷◌, [], length, Some, None, nat_eq, map, refl, sym, ap, subst, rules, arith, get, Contains, Contains-push, RefListAt, ref_list_weight, one_ref_list, DirectoryCache, IsRefListAt, sets_weight_in, HaveOffsets, set_in, NumberedTable, AreNewNamed, sets_at, HasCounted}
use Rattle.std.proofs.Common.{length-append}
use Rattle.dexval.proofs.CachedSets.{list_cached}
use Rattle.dexval.proofs.DirectoryRead.{no_list_room}
use Rattle.dexval.proofs.Keeping.{counts_as}
use Rattle.dexval.proofs.PlacedItems.{fewer, one_placed}
use Rattle.dexval.proofs.Refusals.{err_is, item_refused, refused_within}
use Rattle.dexval.proofs.TableGrowth.{extends_then, new_then, list_is_added}
use Rattle.dexval.proofs.directory_member.ListOfMemberOfMember.counted_at.Goals as goal

pub returns-in-Some-clause-read : goal.returns-in-Some-clause-read
returns-in-Some-clause-read c = λ p.
    record { is_read = (c.requires.cache p).lists_cached c.args.off c.in-Some.place.now (sym c.in-Some.ensures.value); counted = counts_as (omega (arith, c.list_weight.ensures c.args.file.now.pools.now)) c.in_ok-add.ensures.counted }

pub returns-in_err-add-clause-refused : goal.returns-in_err-add-clause-refused
returns-in_err-add-clause-refused c = λ p.
    let b = c.args.file.now.frame.now in
    let m = c.args.file.now.pools.now in
    let off = c.args.off in
    let place = c.in-Some.place.now in
    let here = (c.requires.cache p).lists_cached off place (sym c.in-Some.ensures.value) in
    rw (err_is c.from_residual.result c.from_residual.ensures.1) (item_refused (RefListAt b off) ref_list_weight c.args.kept.now.budget (map (set_in m) (sets_at c.args.kept.now.cache.table (Some place))) c.list_weight.result (one_ref_list b off) here.at (c.list_weight.ensures m) c.in_err-add.field-0.0 c.in_err-add.ensures.refused)

pub returns-in_err-count-clause-refused : goal.returns-in_err-count-clause-refused
returns-in_err-count-clause-refused c = λ p.
    let b = c.args.file.now.frame.now in
    rw (err_is c.from_residual-in_err-count.result c.from_residual-in_err-count.ensures.1) (refused_within (RefListAt b c.args.off) ref_list_weight c.args.kept.now.budget.weight c.args.kept.now.budget.most (no_list_room b c.args.off) c.in_err-count.field-0.0 c.in_err-count.ensures.refused)

pub returns-in_err-places-clause-refused : goal.returns-in_err-places-clause-refused
returns-in_err-places-clause-refused c = λ p.
    rw (err_is c.from_residual-in_err-places.result c.from_residual-in_err-places.ensures.1) (c.in_err-places.ensures.refused p)

pub add_list-requires-clause-few : goal.add_list-requires-clause-few
add_list-requires-clause-few c =
    let fresh : get nat_eq c.listed_at.new.kept.cache.lists c.args.off ≡ None = search rules in fewer (λ off. get nat_eq c.listed_at.new.kept.cache.lists off) _ c.args.off c.in_ok-places.ensures.noted.noted_held.lists_placed fresh (omega arith)

pub returns-clause-noted : goal.returns-clause-noted
returns-clause-noted c =
    let mid = c.listed_at.new.kept.cache in
    let places = c.in_ok-places.places.items in
    let h = c.in_ok-places.ensures.noted in
    let fresh : get nat_eq mid.lists c.args.off ≡ None = search rules in
    let new : DirectoryCache = record { alloc = mid.alloc; table = c.add_list.new.self; sets = mid.sets; lists = c.insert.new.self; items = mid.items } in
    let more : length new.table.lists ≡ length mid.table.lists + 1 = omega (arith, ap (λ (t : NumberedTable). length t.lists) c.in_ok-place.ensures.table, length-append mid.table.lists (places ∷ [])) in
    let added : AreNewNamed (λ i. ⊥) (λ i. Some c.in_ok-place.place ≡ Some i) mid.table new.table = search rules in
    let last : Contains new.table.lists places = subst (λ (t : NumberedTable). Contains t.lists places) (sym c.in_ok-place.ensures.table) (Contains-push mid.table.lists places) in
    record {
      extended = extends_then c.args.kept.now.cache.table mid.table new.table h.extended c.in_ok-place.ensures.extends;
      noted_held = record {
        sets_held = search rules;
        lists_held = search rules;
        sets_placed = subst (HaveOffsets (λ off. get nat_eq mid.sets off)) (sym (ap (λ (t : NumberedTable). length t.sets) c.in_ok-place.ensures.table)) h.noted_held.sets_placed;
        lists_placed = one_placed (λ off. get nat_eq mid.lists off) (length mid.table.lists) c.args.off h.noted_held.lists_placed fresh (omega arith) (λ off. get nat_eq new.lists off) c.in_ok-place.place (length new.table.lists) c.in_ok-insert.ensures.updates.1 c.in_ok-insert.ensures.updates.2 more;
      };
      held = search rules;
      named = new_then c.args.kept.now.cache.table mid.table new.table (λ i inside. (places, last, inside)) (λ i none. absurd none) (λ i none. absurd none) (λ i e. e) h.named added;
    }

pub returns-clause-cache : goal.returns-clause-cache
returns-clause-cache c = λ p.
    let mid = c.listed_at.new.kept.cache in
    let new : DirectoryCache = record { alloc = mid.alloc; table = c.add_list.new.self; sets = mid.sets; lists = c.insert.new.self; items = mid.items } in
    let encodes = subst (IsRefListAt c.args.file.now.frame.now c.args.off c.args.file.now.pools.now) (sym (list_is_added mid.table new.table c.in_ok-places.places.items c.in_ok-place.place c.in_ok-place.ensures.place c.in_ok-place.ensures.table)) (c.in_ok-places.ensures.read p).is_read in
    list_cached c.args.file.now.frame.now c.args.file.now.pools.now mid new c.args.off c.in_ok-place.place c.in_ok-place.ensures.extends c.in_ok-places.ensures.noted.noted_held (c.in_ok-places.ensures.cache p) c.in_ok-insert.ensures.updates.1 c.in_ok-insert.ensures.updates.2 refl refl encodes

pub returns-clause-read : goal.returns-clause-read
returns-clause-read c = λ p.
    subst (HasCounted (IsRefListAt c.args.file.now.frame.now c.args.off c.args.file.now.pools.now) (sets_weight_in c.args.file.now.pools.now) c.args.kept.now.budget c.listed_at.new.kept.budget)
    (sym (list_is_added c.listed_at.new.kept.cache.table c.add_list.new.self c.in_ok-places.places.items c.in_ok-place.place c.in_ok-place.ensures.place c.in_ok-place.ensures.table)) (c.in_ok-places.ensures.read p)
