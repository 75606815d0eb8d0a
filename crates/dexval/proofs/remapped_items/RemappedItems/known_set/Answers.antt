use Rattle.dexval.proofs.Common.{rules, ◌≡◌, ◌∙◌, true, ap, subst, Maps, IsRemappedSet, SetHasPlaces, renumbered_set, set_of}
use Rattle.dexval.proofs.KeptImages.{placed_image}
use Rattle.dexval.proofs.remapped_items.RemappedItems.known_set.Goals as goal

pub returns : goal.returns
returns c =
    let r = c.self.inside.remap.now in
    let s = c.args.set.now in
    let found = c.in_ok-clone.field-0.value in
    let same : c.is_image_set.result ≡ true = search rules in
    let fits : c.fits.result ≡ true = search rules in
    let image : found ≡ set_of c.set-2.result.now = search rules in
    let is : found ≡ renumbered_set r s = image ∙ c.is_image_set.ensures.0 same ∙ ap (renumbered_set r) c.set.ensures in
    subst (λ (r : Maps). IsRemappedSet r s found) c.self.view_is (placed_image r s found is (subst (SetHasPlaces r) c.set-else-not-is_image_set.ensures (c.fits.ensures.0 fits)))
