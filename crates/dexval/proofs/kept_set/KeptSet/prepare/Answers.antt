use Rattle.dexval.proofs.Common.{rules, ◌≡◌, refl}
use Rattle.dexval.proofs.KeptImages.{same_image}
use Rattle.dexval.proofs.kept_set.KeptSet.prepare.Goals as goal

pub returns-in_ok-clone-clause-ready : goal.returns-in_ok-clone-clause-ready
returns-in_ok-clone-clause-ready c =
    let r = c.args.items.now in
    let image = c.in_ok-image.image.value in
    let cloned : c.in_ok-clone.field-0.value ≡ c.in-Some.set.now.value = search rules in
    same_image r c.in-Some.set.now.value image c.in_ok-clone.field-0.value image cloned refl c.in_ok-image.ensures.image
