use Rattle.dexrows.proofs.Common.{◌<◌, length, get_or, map, slice_index, arith, sym, ap, ◌∙◌, subst, All, length-map, with_items_is}
use Rattle.dexrows.proofs.Composing.{holds_at_rest, each_more, rest_more}
use Rattle.dexrows.proofs.places.compose_all.Goals as goal

pub compose-requires : goal.compose-requires
compose-requires c = subst (All (λ place. place < length c.args.places.now)) (sym c.deref_mut.ensures.value)
    (holds_at_rest (λ image. All (λ place. place < length c.args.places.now) image.items) c.args.images.now c.loop-i.images c.loop-i.i c.index-images-i.result c.requires (omega arith) c.loop-i.invariant.rest)

pub loop-i-preserved : goal.loop-i-preserved
loop-i-preserved c =
    let f = map (slice_index c.args.places.now) in
    let image = get_or c.loop-i.images c.loop-i.i c.index-images-i.result in
    let is = c.compose.ensures ∙ ap f c.deref_mut.ensures.value in
    record {
      done = each_more (λ image. image.items) f c.args.images.now c.loop-i.images c.loop-i.i _ c.index-images-i.result (omega arith) (omega arith) c.loop-i.invariant.done c.loop-i.invariant.rest
          (with_items_is image c.compose.new.image (ap length is ∙ length-map image.items (slice_index c.args.places.now) ∙ sym image.ok.0) ∙ is);
      rest = rest_more c.args.images.now c.loop-i.images c.loop-i.i _ c.index-images-i.result (omega arith) (omega arith) c.loop-i.invariant.rest;
    }
