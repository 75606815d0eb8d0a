use Rattle.dexmembers.proofs.Common.{◌∙◌, All, HasPlaces, Maps, ap, map, renumbered_item, subst, sym}
use Rattle.dexdebug.specs.Debug.{HasPlace, debug_uses, renumbered_debug}
use Rattle.dexmembers.specs.{codes_with}
use Rattle.dexmembers.specs.internal.SharedCodes.{debugs_in, stored_in}
use Rattle.dexmembers.proofs.CodeLists.{codes_have_places, codes_remapped, debugs_have_places, stored_remapped}
use Rattle.dexmembers.proofs.shared_codes.SharedCodes.image.Goals as goal

pub code_images-requires : goal.code_images-requires
code_images-requires c = let x = c.self.inside in codes_have_places c.args.remapped.now (debugs_in x.debugs.items) (stored_in x.items.items) c.self.invariant (subst (All (HasPlaces c.args.remapped.now)) (sym c.self.view_is) c.requires)

pub debug_images-requires : goal.debug_images-requires
debug_images-requires c =
    let x = c.self.inside in
    subst (λ (r : Maps). All (λ d. All (HasPlace r) (debug_uses d)) (debugs_in x.debugs.items)) (sym c.code_images.ensures.kept)
    (debugs_have_places c.args.remapped.now (debugs_in x.debugs.items) (stored_in x.items.items) c.self.invariant (subst (All (HasPlaces c.args.remapped.now)) (sym c.self.view_is) c.requires))

pub invariant_of-result : goal.invariant_of-result
invariant_of-result c =
    let x = c.self.inside in
    let r = c.args.remapped.now in
    let debugs = c.in_ok-debugs.ensures.images ∙ ap (λ (q : Maps). map (renumbered_debug q) (debugs_in x.debugs.items)) c.code_images.ensures.kept in
    rw (c.in_ok-items.ensures.images, debugs) (stored_remapped r (debugs_in x.debugs.items) (stored_in x.items.items) c.self.invariant)

pub returns-clause-image : goal.returns-clause-image
returns-clause-image c =
    let x = c.self.inside in
    let r = c.args.remapped.now in
    let debugs = c.in_ok-debugs.ensures.images ∙ ap (λ (q : Maps). map (renumbered_debug q) (debugs_in x.debugs.items)) c.code_images.ensures.kept in
    (λ i. codes_with (debugs i) (c.in_ok-items.ensures.images i)) ∙ codes_remapped r (debugs_in x.debugs.items) (stored_in x.items.items) c.self.invariant ∙ ap (map (renumbered_item r)) c.self.view_is
