use Rattle.dexpool.proofs.Common.{◌++◌, ◌+◌, ◌<◌, length, map, take, set, ap, sym, subst, ◌∙◌, arith, slice_index, take_more_set, length-set, ProtoEntry, Span, IsEntryWithin, Covers, IsPlaceWithin}
use Rattle.dexpool.proofs.InPlace.{same_at, rest_set, still_holds}
use Rattle.dexpool.proofs.SharedLists.{spans_placed, rows_placed}
use Rattle.dexpool.proofs.renumbering.renumbered_together.Goals as goal

pub place_within-place-requires : goal.place_within-place-requires
place_within-place-requires c = still_holds c.args.rows.items c.loop-i.rows.items c.loop-i.i c.loop-i.invariant.rest (λ p. Covers c.args.range p.parameters) c.index-entry.result.now c.index-entry.ensures (omega (arith, c.loop-i-test.true, c.len-i-end.ensures, c.args.rows.ok.0)) c.requires.covers

pub renumbered-requires-clause-shorty : goal.renumbered-requires-clause-shorty
renumbered-requires-clause-shorty c = (still_holds c.args.rows.items c.loop-i.rows.items c.loop-i.i c.loop-i.invariant.rest (IsEntryWithin (length c.args.lower.strings.now) (length c.args.lower.types.now) c.args.parameters.now) c.index-entry.result.now c.index-entry.ensures (omega (arith, c.loop-i-test.true, c.len-i-end.ensures, c.args.rows.ok.0)) c.requires.protos).shorty_in

pub renumbered-requires-clause-return_type : goal.renumbered-requires-clause-return_type
renumbered-requires-clause-return_type c = (still_holds c.args.rows.items c.loop-i.rows.items c.loop-i.i c.loop-i.invariant.rest (IsEntryWithin (length c.args.lower.strings.now) (length c.args.lower.types.now) c.args.parameters.now) c.index-entry.result.now c.index-entry.ensures (omega (arith, c.loop-i-test.true, c.len-i-end.ensures, c.args.rows.ok.0)) c.requires.protos).return_in

pub loop-i-preserved : goal.loop-i-preserved
loop-i-preserved c =
    let types = c.args.lower.types.now in
    let protos = c.args.rows.items in
    let rows = c.loop-i.rows.items in
    let h = c.loop-i.invariant in
    let lt : c.loop-i.i < length protos = omega (arith, c.loop-i-test.true, c.len-i-end.ensures, c.args.rows.ok.0) in
    let p = c.index-entry.result.now in
    let moved = c.renumbered.result in
    let is = c.index-entry.ensures ∙ same_at protos rows c.loop-i.i h.rest p in
    let shorty = ap (λ (q : ProtoEntry). q.shorty) c.renumbered.ensures ∙ ap (λ (q : ProtoEntry). slice_index c.args.lower.strings.now q.shorty) is in
    let back = ap (λ (q : ProtoEntry). q.return_type) c.renumbered.ensures ∙ ap (λ (q : ProtoEntry). slice_index types q.return_type) is in
    let place = subst (λ (q : ProtoEntry). IsPlaceWithin c.args.range q.parameters moved.parameters) is
    (subst (λ (s : Span). IsPlaceWithin c.args.range p.parameters s) (sym (ap (λ (q : ProtoEntry). q.parameters) c.renumbered.ensures)) c.place_within-place.ensures) in
    let pushed = take_more_set rows c.loop-i.i moved (omega (arith, lt, h.size)) in
    let images = c.in_ok-push_images.ensures ∙ (λ k. c.in_ok-moved.ensures.items k ++ map (slice_index types) (c.part.ensures k)) in
    let span = (c.requires.protos c.loop-i.i p lt).span in
    record {
      so_far = rows_placed c.args.lower.strings.now types c.args.parameters.now c.push_images.new.to.items c.args.range c.requires.range images protos (take c.loop-i.i rows) (take (c.loop-i.i + 1) (set rows c.loop-i.i moved)) c.loop-i.i p moved lt span shorty back place pushed h.so_far;
      spans = spans_placed c.args.lower.strings.now types c.args.parameters.now c.push_images.new.to.items c.args.range c.requires.range images protos (take c.loop-i.i rows) (take (c.loop-i.i + 1) (set rows c.loop-i.i moved)) c.loop-i.i p moved lt span shorty back place pushed h.spans;
      rest = rest_set protos rows c.loop-i.i h.rest moved;
      size = length-set rows c.loop-i.i moved ∙ h.size;
    }
