use Rattle.dexpool.proofs.Common.{◌<◌, length, take, set, get_or, refl, ◌∙◌, subst, arith, slice_index, All, All-more, All-weaker, length-set, take_all, ProtoEntry, Span}
use Rattle.dexpool.specs.internal.SharedLists.{HasParametersOf, shifted}
use Rattle.dexpool.proofs.JoinedLists.{placed_at, kept_at}
use Rattle.dexpool.proofs.renumbering.place_rows.Goals as goal

pub loop-i-preserved : goal.loop-i-preserved
loop-i-preserved c =
    let places = c.loop-i.places.items in
    let rows = c.args.rows.now in
    let images = c.args.images.now in
    let i = c.loop-i.i in
    let h = c.loop-i.invariant in
    let d : ProtoEntry = record { shorty = 0; return_type = 0; parameters = record { start = 0; end = 0 } } in
    let lt : i < length rows = omega (arith, c.loop-i-test.true) in
    let in_images : i < length images = omega (arith, lt, c.requires.count) in
    let there : slice_index images i < length places = omega (arith, c.requires.within i 0 in_images, h.count) in
    let place : Span = shifted c.args.base (get_or rows i d).parameters in
    record {
      count = length-set places (slice_index images i) place ∙ h.count;
      kept = λ ps protos are k e has. kept_at ps protos c.args.base rows images are places i d lt there place refl k e (h.kept ps protos are k e has);
      placed = λ ps protos are.
          All-more (λ k. (e : Span) → HasParametersOf ps protos k (get_or (set places (slice_index images i) place) k e)) images i 0 in_images
          (All-weaker (λ k. (e : Span) → HasParametersOf ps protos k (get_or places k e)) (λ k. (e : Span) → HasParametersOf ps protos k (get_or (set places (slice_index images i) place) k e))
          (λ k has e. kept_at ps protos c.args.base rows images are places i d lt there place refl k e (has e)) (take i images) (h.placed ps protos are))
          (placed_at ps protos c.args.base rows images are places i d lt there place refl);
    }

pub returns : goal.returns
returns c =
    let h = c.loop-i.invariant in
    let images = c.args.images.now in
    record {
      count = h.count;
      kept = h.kept;
      placed = λ ps protos are. subst (All (λ k. (e : Span) → HasParametersOf ps protos k (get_or c.loop-i.places.items k e))) (take_all c.loop-i.i images (omega (arith, c.loop-i-test.false, c.requires.count))) (h.placed ps protos are);
    }
