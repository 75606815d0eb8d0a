use Rattle.dexrows.proofs.Common.{◌≡◌, ◌<◌, ◌++◌, length, arith, sym, ap, ◌∙◌, subst, All, with_items_is}
use Rattle.std.specs.Vec.{with_items}
use Rattle.dexrows.proofs.Composing.{all_seen}
use Rattle.dexrows.proofs.JoinedParts.{within_images, joined_two}
use Rattle.dexrows.proofs.joining.join_two.Goals as goal

pub compose_all-requires : goal.compose_all-requires
compose_all-requires g c =
    let places = c.in_ok-merged.merged.left_places.items in
    let within = within_images g.R.Row.key_of c.args.left.rows.items (length c.deref-3.result.now) (sym (ap length c.deref-3.ensures.value ∙ c.in_ok-merged.ensures.left_in.count ∙ ap length c.deref.ensures.value)) c.requires.left.0 _ c.requires.left.1.parts_in in
    subst (All (λ image. All (λ place. place < length c.deref-3.result.now) image.items)) (sym c.deref_mut.ensures.value)
    (all_seen (λ image. image.items) (All (λ place. place < length c.deref-3.result.now)) c.args.left.images.items within)

pub compose_all-requires-2 : goal.compose_all-requires-2
compose_all-requires-2 g c =
    let within = within_images g.R.Row.key_of c.args.right.rows.items (length c.deref-4.result.now) (sym (ap length c.deref-4.ensures.value ∙ c.in_ok-merged.ensures.right_in.count ∙ ap length c.deref-2.ensures.value)) c.requires.right.0 _ c.requires.right.1.parts_in in
    subst (All (λ image. All (λ place. place < length c.deref-4.result.now) image.items)) (sym c.deref_mut-2.ensures.value)
    (all_seen (λ image. image.items) (All (λ place. place < length c.deref-4.result.now)) c.args.right.images.items within)

pub returns : goal.returns
returns g c =
    let left = c.args.left.images in
    let right = c.args.right.images in
    let all : c.append.new.self.items ≡ (with_items left c.compose_all.new.images).items ++ (with_items right c.compose_all-2.new.images).items = c.in_ok-append.ensures.items in
    let front = with_items_is left c.compose_all.new.images (omega (arith, left.ok.0, c.compose_all.auto.images, ap length c.deref_mut.ensures.value)) in
    let back = with_items_is right c.compose_all-2.new.images (omega (arith, right.ok.0, c.compose_all-2.auto.images, ap length c.deref_mut-2.ensures.value)) in
    joined_two g.R.Row.key_of (λ image. image.items) c.args.left.rows.items c.args.right.rows.items _ _ _ _ _ _ _ left.items right.items _ _ _ _ _ c.deref.ensures.value c.deref-2.ensures.value c.in_ok-merged.ensures c.deref-3.ensures.value c.deref-4.ensures.value c.deref_mut.ensures.value c.deref_mut-2.ensures.value c.compose_all.ensures c.compose_all-2.ensures (all ∙ (λ i. front i ++ back i))
