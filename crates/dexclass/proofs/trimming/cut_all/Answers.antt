use Rattle.dexclass.proofs.Common.{◌<◌, ◌≡◌, ◌∙◌, length, sym, ap, subst, arith, get_or_default, Maps}
use Rattle.dexmembers.specs.Fitting.{NumbersFit}
use Rattle.dexclass.specs.{NumberedClass, renumbered_class, ClassHasPlaces, IsMappedClass}
use Rattle.dexclass.proofs.Renumbered.{next_is, remapped_more}
use Rattle.dexclass.proofs.SameClasses.{members_mapped}
use Rattle.dexclass.proofs.trimming.cut_all.Goals as goal

pub renumber-requires : goal.renumber-requires
renumber-requires c =
    let r = c.args.remap.now in
    let xs = c.loop-i.classes.items in
    let d = c.index_mut.result.now in
    let lt : c.loop-i.i < length c.args.classes.now.items = omega (arith, c.loop-i-test.true, c.loop-i.invariant.remapped.len) in
    let is : d ≡ _ = c.index_mut.ensures.value ∙ (next_is (renumbered_class r) xs c.args.classes.now.items c.loop-i.i d lt c.loop-i.invariant.remapped) in
    let mapped = subst (IsMappedClass r) (sym is) (c.requires.remapped c.loop-i.i d lt) in
    let same : c.index.result.now ≡ d = c.index.ensures ∙ get_or_default xs c.loop-i.i c.index.result.now d (omega (arith, lt, c.loop-i.invariant.remapped.len)) ∙ sym c.index_mut.ensures.value in
    let fit = subst (λ (y : NumberedClass). NumbersFit y.members) same (subst NumbersFit c.members.ensures c.numbers_fit.ensures) in
    subst (λ (m : Maps). ClassHasPlaces m d) (sym c.loop-i.invariant.kept) (c.members_cut_law.ensures r d.members c.requires.down fit (members_mapped r d mapped))

pub loop-i-preserved : goal.loop-i-preserved
loop-i-preserved c = record {
  kept = c.renumber.ensures.kept ∙ c.loop-i.invariant.kept;
  remapped = remapped_more (renumbered_class c.args.remap.now) c.loop-i.classes.items c.args.classes.now.items c.loop-i.i c.index_mut.result.now (omega (arith, c.loop-i-test.true, c.loop-i.invariant.remapped.len)) c.loop-i.invariant.remapped c.renumber.new.class
      (c.in_ok-renumber.ensures.renumbered ∙ (λ k. renumbered_class (c.loop-i.invariant.kept k) c.index_mut.result.now) ∙ ap (renumbered_class c.args.remap.now) c.index_mut.ensures.value);
}
