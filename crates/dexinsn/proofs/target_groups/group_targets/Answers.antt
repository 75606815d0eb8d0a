use Rattle.dexinsn.proofs.Common.{◌≡◌, ℤ, pos, Bool, true, List, get_or, to_z, of_z, w32, sym, ◌∙◌, subst, arith, rules, ◌↔◌, SFits, to_z-of_z, take_all, AllInGroup, AreGrouped, TargetGroup}
use Rattle.dexinsn.proofs.TargetGroups.{AreGroupedTo, first_grouped, next_near, next_far, all_grouped}
use Rattle.dexinsn.proofs.target_groups.group_targets.Goals as goal
use Rattle.dexinsn.proofs.target_groups.group_targets.Goals.{in-Some, in-None+in_ok-push-in-None}

pub loop-i-init : goal.loop-i-init
loop-i-init c =
    let t : ℤ = get_or c.args.targets.now 0 (pos 0) in
    let fits : SFits w32 t = search rules in
    let one = subst (λ (z : ℤ). (test : ℤ → Bool) → AllInGroup test c.of-group.result ↔ (test z ≡ true)) (to_z-of_z w32 t fits) c.of-group.ensures in
    subst (λ (groups : List TargetGroup). AreGroupedTo c.args.targets.now 1 groups c.of-group.result) (sym c.new-groups.ensures.items)
    (first_grouped c.args.targets.now c.of-group.result t c.requires (search rules) one)

pub loop-i-preserved : goal.loop-i-preserved
loop-i-preserved c =
    let t : ℤ = get_or c.args.targets.now c.loop-i.i (pos 0) in
    let fits : SFits w32 t = search rules in
    let same : to_z w32 (of_z w32 t) ≡ t = to_z-of_z w32 t fits in
    let here : t ≡ get_or c.args.targets.now c.loop-i.i t = search rules in
    elim c.match-with.branch [
      | in-Some w ↦
          let more = subst (λ (z : ℤ). (test : ℤ → Bool) → AllInGroup test w.in-Some.wider ↔ (AllInGroup test c.loop-i.group × (test z ≡ true))) same w.in-Some.ensures in
          rw (w.groups-is, w.group-is) (next_near c.args.targets.now c.loop-i.i c.loop-i.groups.items c.loop-i.group w.in-Some.wider t c.loop-i-test.true here c.loop-i.invariant more)
      | in-None+in_ok-push-in-None w ↦
          let one = subst (λ (z : ℤ). (test : ℤ → Bool) → AllInGroup test w.of-group-in-None.result ↔ (test z ≡ true)) same w.of-group-in-None.ensures in
          rw (w.groups-is, w.group-is, w.in_ok-push-in-None.ensures.items) (next_far c.args.targets.now c.loop-i.i c.loop-i.groups.items c.loop-i.group w.of-group-in-None.result t c.loop-i-test.true here c.loop-i.invariant one)
    ]

pub returns : goal.returns
returns c =
    subst (AreGrouped c.args.targets.now) (sym (c.shrink_to_fit.ensures.items ∙ c.in_ok-push.ensures.items))
    (all_grouped c.args.targets.now c.loop-i.i c.loop-i.groups.items c.loop-i.group (take_all c.loop-i.i c.args.targets.now (omega arith)) c.loop-i.invariant)
