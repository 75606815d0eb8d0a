use Rattle.dexval.proofs.Common.{◌∙◌, ℕ, Option, None, get_or, map, refl, sym, ap, Some, Vec, set_of, set_at, sets_at, get_or_default}
use Rattle.dexval.specs.declared.set.AnnotationSet.{AnnotationSet}
use Rattle.dexval.proofs.Copies.{copied_more, copied_all}
use Rattle.dexval.proofs.directory.SharedDirectory.unshared.Goals as goal

pub loop-place-preserved : goal.loop-place-preserved
loop-place-preserved c =
    let places = c.list-places.result.now in
    let i = c.loop-place.place-index in
    let y : Option ℕ = get_or places i None in
    copied_more set_of (set_at c.args.self.now.table.sets) places places refl c.loop-place.sets.items c.push.new.self.items i c.in_ok-copied_set.field-0 y c.loop-place-test.true (get_or_default places i None y c.loop-place-test.true) c.loop-place.invariant c.in_ok-push.ensures.items c.in_ok-copied_set.ensures

pub loop-member-preserved : goal.loop-member-preserved
loop-member-preserved c =
    let table = c.args.self.now.table in
    let y : ℕ × ℕ = get_or c.deref-member-items.result.now c.loop-member.member-index (0, 0) in
    let places = c.list-places.result.now in
    let sets = copied_all set_of (set_at table.sets) places places refl c.loop-place.sets.items c.loop-place.place-index c.loop-place-test.false c.loop-place.invariant ∙ ap (map (set_at table.sets)) c.list-places.ensures.list in
    sym (copied_more (λ (e : ℕ × Vec AnnotationSet). (e.0, map set_of e.1.items)) (λ (e : ℕ × ℕ). (e.0, sets_at table (Some e.1))) c.args.self.now.parameters.items c.deref-member-items.result.now c.deref-member-items.ensures.value c.loop-member.parameters.items c.push-in-loop-member.new.self.items c.loop-member.member-index (y.0, c.loop-place.sets) y c.loop-member-test.true (get_or_default c.deref-member-items.result.now c.loop-member.member-index (0, 0) y c.loop-member-test.true) (sym c.loop-member.invariant) c.in_ok-push-2.ensures.items (λ k. (y.0, sets k)))

pub returns : goal.returns
returns c =
    let lists = sym (copied_all (λ (e : ℕ × Vec AnnotationSet). (e.0, map set_of e.1.items)) (λ (e : ℕ × ℕ). (e.0, sets_at c.args.self.now.table (Some e.1))) c.args.self.now.parameters.items c.deref-member-items.result.now c.deref-member-items.ensures.value c.loop-member.parameters.items c.loop-member.member-index c.loop-member-test.false (sym c.loop-member.invariant)) in
    λ k. record { own = c.in_ok-copied_set-2.ensures k; fields = sym c.in_ok-copied_sets.ensures k; methods = sym c.in_ok-copied_sets-2.ensures k; parameters = sym lists k }
