use Rattle.dexinsn.proofs.Common.{pos, ◌+ℤ◌, refl, rules, subst, sym, w32, SFits, take_all, All-more, All-same, HasPlaces, TargetGroup}
use Rattle.dexinsn.proofs.StartBits.{sum_is}
use Rattle.dexinsn.proofs.start_bits.groups_right.Goals as goal

pub loop-group-preserved : goal.loop-group-preserved
loop-group-preserved c =
    let g : TargetGroup = c.group-item.result in
    let fits : SFits w32 g.first = search rules in
    let has : HasPlaces c.args.words.now (pos c.args.at +ℤ g.first) g.bits =
    subst (λ z. HasPlaces c.args.words.now z g.bits) (sym (sum_is c.args.at g.first c.from.result c.requires.small fits c.from.ensures)) (c.if-not-are_set.ensures.0 refl) in
    All-more (λ (h : TargetGroup). HasPlaces c.args.words.now (pos c.args.at +ℤ h.first) h.bits) c.args.groups.now c.loop-group.group-index g c.loop-group-test.true c.loop-group.invariant
    (subst (λ (h : TargetGroup). HasPlaces c.args.words.now (pos c.args.at +ℤ h.first) h.bits) c.group-item.is has)

pub returns : goal.returns
returns c = (
  λ e. All-same (λ (h : TargetGroup). HasPlaces c.args.words.now (pos c.args.at +ℤ h.first) h.bits) c.args.groups.now _ (sym (take_all c.loop-group.group-index c.args.groups.now c.loop-group-test.false)) c.loop-group.invariant,
  λ all. refl,
)
