use Rattle.dexval.proofs.Common.{◌≡◌, ap, sym, subst, IsRemappedSet, NumberedSet, set_of}
use Rattle.dexval.specs.KeptSets.{held_set, IsReadyHolder}
use Rattle.dexval.proofs.KeptImages.{same_image}
use Rattle.dexval.proofs.kept_set.KeptSet.renumber.Goals as goal

pub returns-in-Own : goal.returns-in-Own
returns-in-Own c = subst (λ (s : NumberedSet). IsRemappedSet c.args.remap.now s (set_of c.renumber_fitting.new.set)) (sym (ap held_set c.in-Own.is)) c.renumber_fitting.ensures

pub returns-in-Remapped : goal.returns-in-Remapped
returns-in-Remapped c =
    let ready = subst (IsReadyHolder c.args.remap.now) c.in-Remapped.is c.requires in
    let moved : c.swap.new.x.value ≡ c.in-Remapped.image.value = ap (λ x. x.value) c.swap.ensures.x_after in
    same_image c.args.remap.now c.in-Remapped.set.value c.in-Remapped.image.value (held_set c.args.self.now.holder) c.swap.new.x.value (ap held_set c.in-Remapped.is) moved ready
