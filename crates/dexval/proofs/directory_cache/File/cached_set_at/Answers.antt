use Rattle.dexval.proofs.Common.{◌≡◌, ◌∙◌, ◌+◌, ◌<◌, ◌∷◌, ◌++◌, [], List, length, map, Some, None, nat_eq, refl, sym, ap, subst, arith, rules, get, DirectoryCache, NumberedSet, IsSetAt, AreHeld, AreCached, Extends, NumberedTable, length-map, map-append}
use Rattle.std.proofs.Common.{length-append}
use Rattle.dexval.specs.DirectoryCache.{IsNoted}
use Rattle.dexval.specs.KeptSets.{set_in}
use Rattle.dexval.proofs.CachedSets.{set_cached}
use Rattle.dexval.proofs.PlacedItems.{fewer, one_placed}
use Rattle.dexval.proofs.TableGrowth.{extends_same, none_new, set_added, set_is_added}
use Rattle.dexval.proofs.directory_cache.File.cached_set_at.Goals as goal

pub returns-in-Some-clause-noted : goal.returns-in-Some-clause-noted
returns-in-Some-clause-noted c =
    let found : get nat_eq c.args.cache.now.sets c.args.off ≡ Some c.in-Some.place.now = ap (λ (cache : DirectoryCache). get nat_eq cache.sets c.args.off) (sym c.cache.view_is) ∙ sym c.in-Some.ensures.value in
    record {
      extended = extends_same c.args.cache.now.table;
      noted_held = c.requires.held;
      held = c.requires.held.sets_held c.args.off c.in-Some.place.now found;
      named = none_new _ _ c.args.cache.now.table;
    }

pub returns-in-Some-clause-read : goal.returns-in-Some-clause-read
returns-in-Some-clause-read c =
    let found : get nat_eq c.args.cache.now.sets c.args.off ≡ Some c.in-Some.place.now = ap (λ (cache : DirectoryCache). get nat_eq cache.sets c.args.off) (sym c.cache.view_is) ∙ sym c.in-Some.ensures.value in
    λ p. (c.requires.cache p).sets_cached c.args.off c.in-Some.place.now found

pub add_set-requires : goal.add_set-requires
add_set-requires c =
    let table : NumberedTable = record { sets = map set_in c.cache.inside.0.1.0.sets.items; lists = map (λ l. l.items) c.cache.inside.0.1.0.lists.items } in
    let before : DirectoryCache = record { alloc = c.cache.inside.0.0; table = table; sets = c.cache.inside.0.1.1.0; lists = c.cache.inside.0.1.1.1.0; items = c.cache.inside.0.1.1.1.1.0 } in
    let held : AreHeld before = subst AreHeld (sym c.cache.view_is) c.requires.held in
    let fresh : get nat_eq before.sets c.args.off ≡ None = search rules in
    omega (arith, fewer (λ off. get nat_eq before.sets off) (length table.sets) c.args.off held.sets_placed fresh (omega arith), length-map c.cache.inside.0.1.0.sets.items set_in)

pub returns-clause-noted : goal.returns-clause-noted
returns-clause-noted c =
    let set = set_in c.in_ok-kept.kept in
    let table : NumberedTable = record { sets = map set_in c.cache.inside.0.1.0.sets.items; lists = map (λ l. l.items) c.cache.inside.0.1.0.lists.items } in
    let before : DirectoryCache = record { alloc = c.cache.inside.0.0; table = table; sets = c.cache.inside.0.1.1.0; lists = c.cache.inside.0.1.1.1.0; items = c.cache.inside.0.1.1.1.1.0 } in
    let after : DirectoryCache = record { alloc = before.alloc; table = record { sets = map set_in c.add_set.new.sets.items; lists = table.lists }; sets = c.insert.new.self; lists = before.lists; items = c.kept_set_at.new.items } in
    let held : AreHeld before = subst AreHeld (sym c.cache.view_is) c.requires.held in
    let fresh : get nat_eq before.sets c.args.off ≡ None = search rules in
    let updates = c.in_ok-insert.ensures.updates in
    let added : after.table.sets ≡ table.sets ++ set ∷ [] = ap (map set_in) c.in_ok-place.ensures.sets ∙ map-append set_in c.cache.inside.0.1.0.sets.items (c.in_ok-kept.kept ∷ []) in
    let more : length after.table.sets ≡ length table.sets + 1 = omega (arith, ap length added, length-append table.sets (set ∷ [])) in
    let place : c.in_ok-place.place ≡ length table.sets = c.in_ok-place.ensures.place ∙ sym (length-map c.cache.inside.0.1.0.sets.items set_in) in
    let extended : Extends table after.table = subst (λ (sets : List NumberedSet). Extends table (record { sets = sets; lists = table.lists })) (sym added) (set_added table set c.cache.invariant) in
    let noted : IsNoted (λ i. Some c.in_ok-place.place ≡ Some i) (λ i. ⊥) (c.in_ok-place.place < length after.table.sets) before after = record {
      extended = extended;
      noted_held = record {
        sets_held = search rules;
        lists_held = held.lists_held;
        sets_placed = one_placed (λ off. get nat_eq before.sets off) (length table.sets) c.args.off held.sets_placed fresh (omega arith) (λ off. get nat_eq c.insert.new.self off) c.in_ok-place.place (length after.table.sets) updates.1 updates.2 more;
        lists_placed = held.lists_placed;
      };
      held = omega (arith, place, more);
      named = search rules;
    } in
    subst (λ (cache : DirectoryCache). IsNoted (λ i. Some c.in_ok-place.place ≡ Some i) (λ i. ⊥) (c.in_ok-place.place < length after.table.sets) cache after) c.cache.view_is noted

pub returns-clause-cache : goal.returns-clause-cache
returns-clause-cache c = λ p.
    let set = set_in c.in_ok-kept.kept in
    let table : NumberedTable = record { sets = map set_in c.cache.inside.0.1.0.sets.items; lists = map (λ l. l.items) c.cache.inside.0.1.0.lists.items } in
    let before : DirectoryCache = record { alloc = c.cache.inside.0.0; table = table; sets = c.cache.inside.0.1.1.0; lists = c.cache.inside.0.1.1.1.0; items = c.cache.inside.0.1.1.1.1.0 } in
    let after : DirectoryCache = record { alloc = before.alloc; table = record { sets = map set_in c.add_set.new.sets.items; lists = table.lists }; sets = c.insert.new.self; lists = before.lists; items = c.kept_set_at.new.items } in
    let added : after.table.sets ≡ table.sets ++ set ∷ [] = ap (map set_in) c.in_ok-place.ensures.sets ∙ map-append set_in c.cache.inside.0.1.0.sets.items (c.in_ok-kept.kept ∷ []) in
    let place : c.in_ok-place.place ≡ length table.sets = c.in_ok-place.ensures.place ∙ sym (length-map c.cache.inside.0.1.0.sets.items set_in) in
    let extended : Extends table after.table = subst (λ (sets : List NumberedSet). Extends table (record { sets = sets; lists = table.lists })) (sym added) (set_added table set c.cache.invariant) in
    let held : AreHeld before = subst AreHeld (sym c.cache.view_is) c.requires.held in
    let cached : AreCached c.args.self.now.frame.now c.args.self.now.pools.now before = subst (AreCached c.args.self.now.frame.now c.args.self.now.pools.now) (sym c.cache.view_is) (c.requires.cache p) in
    let encodes = subst (IsSetAt c.args.self.now.frame.now c.args.off c.args.self.now.pools.now) (sym (set_is_added table after.table set c.in_ok-place.place place (ap (λ (sets : List NumberedSet). record { sets = sets; lists = table.lists }) added))) (c.in_ok-kept.ensures.set p) in
    set_cached c.args.self.now.frame.now c.args.self.now.pools.now before after c.args.off c.in_ok-place.place extended held cached c.in_ok-insert.ensures.updates.1 c.in_ok-insert.ensures.updates.2 refl (c.in_ok-kept.ensures.items p) encodes
