use Rattle.dexval.proofs.Common.{◌≡◌, ◌+◌, ◌∙◌, map, ap, sym, NumberedTable}
use Rattle.dexval.specs.KeptSets.{set_in}
use Rattle.dexval.proofs.Copies.{copied_more, copied_all, seen_so}
use Rattle.dexval.proofs.set_table.SetTable.copy.Goals as goal

pub loop-set-preserved : goal.loop-set-preserved
loop-set-preserved c =
    let ys = c.self.inside.sets.items in
    let view : map set_in ys ≡ c.args.self.now.sets = ap (λ (t : NumberedTable). t.sets) c.self.view_is in
    copied_more set_in set_in ys c.deref-set-items.result.now c.deref-set-items.ensures.value c.loop-set.sets.items c.push.new.self.items c.loop-set.set-index c.in_ok-copy.field-0 c.set-item.result c.loop-set-test.true c.set-item.is (c.loop-set.invariant ∙ sym (seen_so set_in ys c.loop-set.set-index view)) c.in_ok-push.ensures.items c.in_ok-copy.ensures
    ∙ seen_so set_in ys (c.loop-set.set-index + 1) view

pub loop-list-preserved : goal.loop-list-preserved
loop-list-preserved c =
    let ys = c.self.inside.lists.items in
    let view : map (λ v. v.items) ys ≡ c.args.self.now.lists = ap (λ (t : NumberedTable). t.lists) c.self.view_is in
    copied_more (λ v. v.items) (λ v. v.items) ys c.deref-list-items.result.now c.deref-list-items.ensures.value c.loop-list.lists.items c.push-in-loop-list.new.self.items c.loop-list.list-index c.in_ok-from_slice.field-0 c.list-item.result c.loop-list-test.true c.list-item.is (c.loop-list.invariant ∙ sym (seen_so (λ v. v.items) ys c.loop-list.list-index view)) c.in_ok-push-2.ensures.items (c.in_ok-from_slice.ensures.items ∙ c.deref.ensures.value)
    ∙ seen_so (λ v. v.items) ys (c.loop-list.list-index + 1) view

pub returns : goal.returns
returns c =
    let t = c.self.inside in
    let sets_view : map set_in t.sets.items ≡ c.args.self.now.sets = ap (λ (t : NumberedTable). t.sets) c.self.view_is in
    let lists_view : map (λ v. v.items) t.lists.items ≡ c.args.self.now.lists = ap (λ (t : NumberedTable). t.lists) c.self.view_is in
    let sets = copied_all set_in set_in t.sets.items c.deref-set-items.result.now c.deref-set-items.ensures.value c.loop-set.sets.items c.loop-set.set-index c.loop-set-test.false (c.loop-set.invariant ∙ sym (seen_so set_in t.sets.items c.loop-set.set-index sets_view)) ∙ sets_view in
    let lists = copied_all (λ v. v.items) (λ v. v.items) t.lists.items c.deref-list-items.result.now c.deref-list-items.ensures.value c.loop-list.lists.items c.loop-list.list-index c.loop-list-test.false (c.loop-list.invariant ∙ sym (seen_so (λ v. v.items) t.lists.items c.loop-list.list-index lists_view)) ∙ lists_view in
    λ k. record { sets = sets k; lists = lists k }
