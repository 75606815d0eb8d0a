use Rattle.dexval.proofs.Common.{◌≡◌, ◌+◌, ◌*◌, ℕ, List, [], sum_by, refl, sym, subst, arith, uint_at, CheckedSets, NumberedSet, IsSetOrEmptyAt, NoSetOrEmptyAt, IsRefListAt, set_weight_in, sets_weight_in}
use Rattle.dexval.proofs.DirectoryRead.{HaveReadList, no_list_yet, one_set_more, no_set_next, no_list_room, list_read}
use Rattle.dexval.proofs.DirectoryChecked.{list_added, one_weighed, weighed_as}
use Rattle.dexval.proofs.Keeping.{list_adds, list_weighs}
use Rattle.dexval.proofs.Refusals.{err_is, refuses_so}
use Rattle.dexval.proofs.directory_member.ListOfMemberOfMember.checked_at.Goals as goal

pub returns-in-Some-clause-weight : goal.returns-in-Some-clause-weight
returns-in-Some-clause-weight c = λ p. (c.requires.checked p).lists_checked c.args.off c.in-Some.weight.now (sym c.in-Some.ensures.value)

pub returns-in_err-count-clause-refused : goal.returns-in_err-count-clause-refused
returns-in_err-count-clause-refused c = λ p.
    rw (err_is c.from_residual.result c.from_residual.ensures.1) (refuses_so 22 (no_list_room c.args.file.now.frame.now c.args.off) c.in_err-count.field-0.0 c.in_err-count.ensures.refused)

pub returns-in_err-set-clause-refused : goal.returns-in_err-set-clause-refused
returns-in_err-set-clause-refused c = λ p.
    let b = c.args.file.now.frame.now in
    rw (err_is c.from_residual-in_err-set.result c.from_residual-in_err-set.ensures.1) (refuses_so 22 (λ none. no_set_next b c.args.off c.loop-i.i (omega (arith, c.in_ok-count.ensures.count.1)) (subst (NoSetOrEmptyAt b) c.uint_at-set_off.ensures none)) c.in_err-set.field-0.0 (c.in_err-set.ensures.refused p))

pub loop-i-init : goal.loop-i-init
loop-i-init c = record { checked = c.requires.checked; weighed = λ p. record { item = []; is_read = no_list_yet c.args.file.now.frame.now (c.args.off + 4) c.args.file.now.pools.now; weight_is = omega arith } }

pub loop-i-preserved : goal.loop-i-preserved
loop-i-preserved c =
    let b = c.args.file.now.frame.now in
    let m = c.args.file.now.pools.now in
    let p4 = c.args.off + 4 in
    let i = c.loop-i.i in
    let list = c.list_weight-list.result in
    record {
      checked = λ p. c.in_ok-set.ensures.checked p;
      weighed = λ p.
          let r = c.in_ok-set.ensures.weight p in
          let encodes : IsSetOrEmptyAt b (uint_at b (c.args.off + 4 + 4 * i)) m r.item = subst (λ (x : ℕ). IsSetOrEmptyAt b x m r.item) c.uint_at-set_off.ensures r.is_read in
          one_weighed (HaveReadList b p4 m i) (HaveReadList b p4 m (i + 1)) (λ (ss : List NumberedSet). list + sum_by (set_weight_in m) ss) (set_weight_in m) r.item (λ ss k. one_set_more b p4 m i ss r.item k encodes) (list_adds m list r.item) (c.loop-i.invariant.weighed p) r.weight_is (omega (arith, c.saturating_add-weight.ensures));
    }

pub returns-clause-weight : goal.returns-clause-weight
returns-clause-weight c = λ p.
    let b = c.args.file.now.frame.now in
    let m = c.args.file.now.pools.now in
    let list = c.list_weight-list.result in
    let i = c.loop-i.i in
    let is_count : i ≡ c.in_ok-count.count = omega arith in
    weighed_as (HaveReadList b (c.args.off + 4) m i) (IsRefListAt b c.args.off m) (λ (ss : List NumberedSet). list + sum_by (set_weight_in m) ss) (sets_weight_in m) (λ ss k. list_read b c.args.off m i ss c.in_ok-count.ensures.count.0 (omega (arith, c.in_ok-count.ensures.count.1)) k)
    (λ ss k. list_weighs b (c.args.off + 4) m i list ss (λ e. c.list_weight-list.ensures.none (omega (arith, e, is_count))) (λ lt. omega (arith, is_count, c.list_weight-list.ensures.some (omega (arith, lt, is_count)))) k)
    (c.loop-i.invariant.weighed p)

pub returns-clause-checked : goal.returns-clause-checked
returns-clause-checked c = λ p.
    let new : CheckedSets = record { sets = c.loop-i.checked.sets; lists = c.insert.new.self } in
    list_added c.args.file.now.frame.now c.args.file.now.pools.now c.loop-i.checked new c.args.off c.loop-i.weight (c.loop-i.invariant.checked p) (returns-clause-weight c p) c.in_ok-insert.ensures.updates.1 c.in_ok-insert.ensures.updates.2 refl
