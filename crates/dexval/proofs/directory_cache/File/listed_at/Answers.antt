use Rattle.dexval.proofs.Common.{◌≡◌, ◌+◌, ◌*◌, ◌++◌, ◌∷◌, ◌∙◌, ℕ, List, [], Option, Some, map, sum_by, refl, ap, sym, subst, arith, All, Contains, map-append, All-nil, SetAt, RefListAt, uint_at, OrNone, set_weight, ref_list_weight, NumberedSet, IsSetOrEmptyAt, IsRefListAt, set_weight_in, sets_weight_in, IsNoted, IsPlaceIn, set_at, HasCounted}
use Rattle.dexval.proofs.DirectoryRead.{HaveReadList, no_list_yet, one_set_more, list_part, set_part, list_read}
use Rattle.dexval.proofs.Keeping.{counts_as, counted_as, one_counted, list_adds, list_weighs}
use Rattle.dexval.proofs.Naming.{list_step}
use Rattle.dexval.proofs.Refusals.{err_is, HasPart, none_counted, part_refused}
use Rattle.dexval.proofs.TableGrowth.{extends_same, none_new, map_stays}
use Rattle.dexval.proofs.directory_cache.File.listed_at.Goals as goal

pub returns-in_err-add-clause-refused : goal.returns-in_err-add-clause-refused
returns-in_err-add-clause-refused c = λ p.
    let count : c.args.count ≡ uint_at c.args.self.now.frame.now c.args.off = c.requires.count.1 in
    rw (err_is c.from_residual.result c.from_residual.ensures.1)
    (part_refused (RefListAt c.args.self.now.frame.now c.args.off) (λ n. n ≡ c.list_weight-list.result) ref_list_weight (λ n. n) c.args.kept.now.budget c.args.kept.now.budget 0 (none_counted c.args.kept.now.budget)
    (list_part c.args.self.now.frame.now c.args.off c.list_weight-list.result (λ none. c.list_weight-list.ensures.none (omega (arith, none, count))) (λ some. omega (arith, count, c.list_weight-list.ensures.some (omega (arith, some, count))))) c.in_err-add.field-0.0 c.in_err-add.ensures.refused)

pub returns-in_err-place-clause-refused : goal.returns-in_err-place-clause-refused
returns-in_err-place-clause-refused c = λ p.
    let b = c.args.self.now.frame.now in
    let m = c.args.self.now.pools.now in
    let off = c.args.off in
    let list = c.list_weight-list.result in
    let kept = map (set_at c.loop-i.kept.cache.table.sets) c.loop-i.places.items in
    let before = list + sum_by (set_weight_in m) kept in
    let h = c.loop-i.invariant.read p in
    let count : c.args.count ≡ uint_at b off = c.requires.count.1 in
    rw (err_is c.from_residual-in_err-place.result c.from_residual-in_err-place.ensures.1)
    (part_refused (RefListAt b off) (OrNone SetAt [] b c.uint_at-set_off.result) ref_list_weight set_weight c.args.kept.now.budget c.loop-i.kept.budget before h.counted
    (λ ss k. subst (λ (n : ℕ). HasPart (OrNone SetAt [] b n) set_weight before (ref_list_weight ss)) (sym c.uint_at-set_off.ensures) (set_part b off c.loop-i.i list m kept (omega (arith, count)) (λ some. omega (arith, count, c.list_weight-list.ensures.some (omega (arith, some, count)))) h.is_read ss k))
    c.in_err-place.field-0.0 (c.in_err-place.ensures.refused p))

pub loop-i-init : goal.loop-i-init
loop-i-init c =
    let table = c.args.kept.now.cache.table in
    let Noted = λ (l : List (Option ℕ)). IsNoted (λ i. Contains l (Some i)) (λ i. ⊥) (All (IsPlaceIn table.sets) l) c.args.kept.now.cache c.args.kept.now.cache in
    record {
      lists = refl;
      noted = subst Noted (sym c.requires.room.empty) (record { extended = extends_same table; noted_held = c.requires.held; held = All-nil (IsPlaceIn table.sets); named = none_new (λ i. Contains [] (Some i)) (λ i. ⊥) table });
      cache = c.requires.cache;
      read = λ p.
          let Counted = HasCounted (HaveReadList c.args.self.now.frame.now (c.args.off + 4) c.args.self.now.pools.now 0) (λ (ss : List NumberedSet). c.list_weight-list.result + sum_by (set_weight_in c.args.self.now.pools.now) ss) c.args.kept.now.budget c.add.new.self in
          subst (λ (l : List (Option ℕ)). Counted (map (set_at table.sets) l)) (sym c.requires.room.empty) (record { is_read = no_list_yet c.args.self.now.frame.now (c.args.off + 4) c.args.self.now.pools.now; counted = counts_as (omega arith) c.in_ok-add.ensures.counted });
    }

pub loop-i-preserved : goal.loop-i-preserved
loop-i-preserved c =
    let b = c.args.self.now.frame.now in
    let m = c.args.self.now.pools.now in
    let p4 = c.args.off + 4 in
    let i = c.loop-i.i in
    let list = c.list_weight-list.result in
    let new = c.counted_set_or_empty_at.new.kept.cache in
    let place = c.in_ok-place.place in
    let before = c.loop-i.places.items in
    let set = set_at new.table.sets place in
    let kept = map (set_at c.loop-i.kept.cache.table.sets) before in
    let pushed : map (set_at new.table.sets) c.push.new.self.items ≡ kept ++ set ∷ [] =
    ap (map (set_at new.table.sets)) c.in_ok-push.ensures.items ∙ map-append (set_at new.table.sets) before (place ∷ [])
    ∙ ap (λ (ss : List NumberedSet). ss ++ set ∷ []) (map_stays (set_at c.loop-i.kept.cache.table.sets) (set_at new.table.sets) (IsPlaceIn c.loop-i.kept.cache.table.sets) c.in_ok-place.ensures.noted.extended.sets_stay before c.loop-i.invariant.noted.held)
    in
    record {
      lists = c.in_ok-place.ensures.lists ∙ c.loop-i.invariant.lists;
      noted = list_step c.args.kept.now.cache c.loop-i.kept.cache new before c.push.new.self.items place c.loop-i.invariant.noted c.in_ok-place.ensures.noted c.in_ok-push.ensures.items;
      cache = λ p. c.in_ok-place.ensures.cache p;
      read = λ p.
          let r = c.in_ok-place.ensures.read p in
          let encodes : IsSetOrEmptyAt b (uint_at b (c.args.off + 4 + 4 * i)) m set = subst (λ (x : ℕ). IsSetOrEmptyAt b x m set) c.uint_at-set_off.ensures r.is_read in
          one_counted (HaveReadList b p4 m i) (HaveReadList b p4 m (i + 1)) (λ (ss : List NumberedSet). list + sum_by (set_weight_in m) ss) (set_weight_in m) (list_adds m list set kept) (c.loop-i.invariant.read p) r.counted (λ k. one_set_more b p4 m i kept set k encodes) pushed;
    }

pub returns-clause-read : goal.returns-clause-read
returns-clause-read c = λ p.
    let b = c.args.self.now.frame.now in
    let m = c.args.self.now.pools.now in
    let i = c.loop-i.i in
    let kept = map (set_at c.loop-i.kept.cache.table.sets) c.loop-i.places.items in
    let is_count : i ≡ c.args.count = omega arith in
    counted_as (HaveReadList b (c.args.off + 4) m i) (IsRefListAt b c.args.off m) (λ (ss : List NumberedSet). c.list_weight-list.result + sum_by (set_weight_in m) ss) (sets_weight_in m) (list_read b c.args.off m i kept c.requires.count.0 (omega (arith, c.requires.count.1)))
    (list_weighs b (c.args.off + 4) m i c.list_weight-list.result kept (λ e. c.list_weight-list.ensures.none (omega (arith, e, is_count))) (λ lt. omega (arith, is_count, c.list_weight-list.ensures.some (omega (arith, lt, is_count)))))
    (c.loop-i.invariant.read p)
