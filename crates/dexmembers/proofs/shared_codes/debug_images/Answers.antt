use Rattle.dexmembers.proofs.Common.{◌≡◌, ◌∙◌, All, Maps, ap, map, map_both, refl, subst, sym, take_all}
use Rattle.dexdebug.specs.Debug.{NumberedDebug, HasPlace, debug_uses, renumbered_debug}
use Rattle.dexmembers.specs.internal.SharedCodes.{debug_in, debugs_in}
use Rattle.dexmembers.proofs.CodeLists.{mapped_more}
use Rattle.dexmembers.proofs.RenumberingLists.{all_seen}
use Rattle.dexmembers.proofs.shared_codes.debug_images.Goals as goal

pub debug_image-requires : goal.debug_image-requires
debug_image-requires c =
    let r = c.args.remapped.now in
    let xs = c.deref-debug-items.result.now in
    let P = λ (d : NumberedDebug). All (HasPlace r) (debug_uses d) in
    let mapped = subst (λ l. All P (debugs_in l)) (sym c.deref-debug-items.ensures.value) c.requires in
    subst (λ (q : Maps). All (HasPlace q) (debug_uses (debug_in c.debug-item.result))) (sym c.loop-debug.invariant.kept)
    (subst (λ x. P (debug_in x)) (sym c.debug-item.is) (all_seen debug_in P xs mapped c.loop-debug.debug-index c.debug-item.result c.loop-debug-test.true))

pub loop-debug-preserved : goal.loop-debug-preserved
loop-debug-preserved c =
    let r = c.args.remapped.now in
    let x = c.debug-item.result in
    record {
      kept = c.debug_image.ensures.kept ∙ c.loop-debug.invariant.kept;
      images = mapped_more (λ y. renumbered_debug r (debug_in y)) debug_in c.deref-debug-items.result.now c.loop-debug.debug-index x c.loop-debug.images.items c.push.new.self.items _ c.loop-debug-test.true c.in_ok-push.ensures.items c.loop-debug.invariant.images
          (c.in_ok-debug_image.ensures.image ∙ ap (λ (q : Maps). renumbered_debug q (debug_in x)) c.loop-debug.invariant.kept ∙ ap (λ y. renumbered_debug r (debug_in y)) c.debug-item.is);
    }

pub returns-clause-images : goal.returns-clause-images
returns-clause-images c =
    let r = c.args.remapped.now in
    c.loop-debug.invariant.images ∙ ap (map (λ y. renumbered_debug r (debug_in y))) (take_all c.loop-debug.debug-index c.deref-debug-items.result.now c.loop-debug-test.false ∙ c.deref-debug-items.ensures.value)
    ∙ sym (map_both debug_in (renumbered_debug r) (λ y. renumbered_debug r (debug_in y)) c.args.debugs.now.items (λ k d lt. refl))
