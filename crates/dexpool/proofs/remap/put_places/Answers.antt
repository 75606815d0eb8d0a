use Rattle.dexpool.proofs.Common.{◌+◌, ◌++◌, [], ◌∷◌, false, map, refl, ap, ◌∙◌, arith, map-append, image_in}
use Rattle.dexpool.proofs.CutRows.{places_if, places_else}
use Rattle.dexpool.proofs.StoredImages.{image_is}
use Rattle.dexpool.proofs.remap.put_places.Goals.{then-not-is_marked, else-not-is_marked+then-count-lt-NO_IMAGE}
use Rattle.dexpool.proofs.remap.put_places.Goals as goal

pub loop-is_marked-preserved : goal.loop-is_marked-preserved
loop-is_marked-preserved c =
    let marks = c.args.marks.now in
    let i = c.loop-is_marked.is_marked-index in
    let n = c.loop-is_marked.count in
    let old = c.loop-is_marked.stored.items in
    let lt = c.loop-is_marked-test.true in
    let before = c.loop-is_marked.invariant in
    elim c.if-not-is_marked.branch [
      | then-not-is_marked w ↦ rw (w.stored-is, w.count-is) (record {
        images = places_else marks i n false (map image_in old) (map image_in w.push_reserved.new.self.items) lt w.if-not-is_marked.true
            (ap (map image_in) w.push_reserved.ensures.items ∙ map-append image_in old (0xffffffff ∷ [])) before.images;
        few = omega (arith, before.few);
        room = omega (arith, before.room, w.push_reserved.ensures.len, w.push_reserved.ensures.capacity);
      })
      | else-not-is_marked+then-count-lt-NO_IMAGE w ↦ rw (w.stored-is, w.count-is) (record {
        images = places_if marks i n (n + 1) false (map image_in old) (map image_in w.push_reserved-then-count-lt-NO_IMAGE.new.self.items) lt w.if-not-is_marked.false refl
            (ap (map image_in) w.push_reserved-then-count-lt-NO_IMAGE.ensures.items ∙ map-append image_in old (n ∷ []) ∙ ap (λ o. map image_in old ++ o ∷ []) (image_is n (omega (arith, w.if-count-lt-NO_IMAGE.true)))) before.images;
        few = omega (arith, before.few);
        room = omega (arith, before.room, w.push_reserved-then-count-lt-NO_IMAGE.ensures.len, w.push_reserved-then-count-lt-NO_IMAGE.ensures.capacity);
      })
    ]
