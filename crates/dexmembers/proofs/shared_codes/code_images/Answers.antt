use Rattle.dexmembers.proofs.Common.{◌≡◌, ◌∙◌, All, HasPlaces, Maps, ap, map, map_both, refl, renumbered_item, subst, sym, take_all}
use Rattle.dexmembers.specs.{IsStoredCodeMapped, remapped_code}
use Rattle.dexmembers.specs.internal.SharedCodes.{code_in, stored_in, stored_with}
use Rattle.dexmembers.proofs.CodeLists.{mapped_more}
use Rattle.dexmembers.proofs.RenumberingLists.{all_seen}
use Rattle.dexmembers.proofs.shared_codes.code_images.Goals as goal

pub code_image-requires : goal.code_image-requires
code_image-requires c =
    let r = c.args.remapped.now in
    let xs = c.deref-item-items.result.now in
    let mapped = subst (λ l. All (IsStoredCodeMapped r) (stored_in l)) (sym c.deref-item-items.ensures.value) c.requires in
    subst (λ (q : Maps). HasPlaces q (code_in c.item-item.result.code)) (sym c.loop-item.invariant.kept)
    (subst (λ x. HasPlaces r (code_in x.code)) (sym c.item-item.is) (all_seen stored_with (IsStoredCodeMapped r) xs mapped c.loop-item.item-index c.item-item.result c.loop-item-test.true))

pub loop-item-preserved : goal.loop-item-preserved
loop-item-preserved c =
    let r = c.args.remapped.now in
    let x = c.item-item.result in
    let code : code_in c.in_ok-code.code ≡ renumbered_item r (code_in x.code) = c.in_ok-code.ensures.image ∙ ap (λ (q : Maps). renumbered_item q (code_in x.code)) c.loop-item.invariant.kept in
    record {
      kept = c.code_image.ensures.kept ∙ c.loop-item.invariant.kept;
      images = mapped_more (λ y. remapped_code r (stored_with y)) stored_with c.deref-item-items.result.now c.loop-item.item-index x c.loop-item.images.items c.push.new.self.items _ c.loop-item-test.true c.in_ok-push.ensures.items c.loop-item.invariant.images
          ((λ i. record { code = code i; debug = x.debug }) ∙ ap (λ y. remapped_code r (stored_with y)) c.item-item.is);
    }

pub returns-clause-images : goal.returns-clause-images
returns-clause-images c =
    let r = c.args.remapped.now in
    c.loop-item.invariant.images ∙ ap (map (λ y. remapped_code r (stored_with y))) (take_all c.loop-item.item-index c.deref-item-items.result.now c.loop-item-test.false ∙ c.deref-item-items.ensures.value)
    ∙ sym (map_both stored_with (remapped_code r) (λ y. remapped_code r (stored_with y)) c.args.items.now.items (λ k d lt. refl))
