use Rattle.dexval.proofs.Common.{rules, ◌≡◌, sym, refl, subst, Maps, IsRemappedSet}
use Rattle.dexval.proofs.KeptImages.{same_image}
use Rattle.dexval.proofs.remapped_items.RemappedItems.set_image.Goals as goal

pub returns-in-Some-clause-image : goal.returns-in-Some-clause-image
returns-in-Some-clause-image c =
    let image = c.in-Some.known.value in
    let at : c.deref.result.now ≡ c.args.set.now.value = search rules in
    same_image c.args.self.now c.deref.result.now image c.args.set.now.value image (sym at) refl (rw c.in-Some.is at c.in_ok-known.ensures)

pub returns-clause-image : goal.returns-clause-image
returns-clause-image c =
    subst (λ (r : Maps). IsRemappedSet r c.args.set.now.value c.in_ok-image.image.value) c.self.view_is c.in_ok-image.ensures
