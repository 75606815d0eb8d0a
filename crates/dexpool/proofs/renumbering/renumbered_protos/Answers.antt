use Rattle.dexpool.proofs.Common.{◌≡◌, [], ◌∷◌, ◌++◌, ◌+◌, ◌<◌, length, map, take, set, ap, sym, ◌∙◌, arith, slice_index, map_more, take_more_set, length-set, ProtoNumbers, ProtoEntry, moved_proto, IsEntryWithin}
use Rattle.dexpool.proofs.InPlace.{same_at, rest_set, still_holds}
use Rattle.dexpool.proofs.StoredProtos.{rows_more, spans_more}
use Rattle.dexpool.proofs.renumbering.renumbered_protos.Goals as goal

pub part-requires : goal.part-requires
part-requires c = (still_holds c.args.rows.items c.loop-i.rows.items c.loop-i.i c.loop-i.invariant.rest (IsEntryWithin (length c.args.lower.strings.now) (length c.args.lower.types.now) c.args.parameters.now) c.index-entry.result.now c.index-entry.ensures (omega (arith, c.loop-i-test.true, c.len-i-end.ensures, c.args.rows.ok.0)) c.requires).span

pub renumbered-requires-clause-shorty : goal.renumbered-requires-clause-shorty
renumbered-requires-clause-shorty c = (still_holds c.args.rows.items c.loop-i.rows.items c.loop-i.i c.loop-i.invariant.rest (IsEntryWithin (length c.args.lower.strings.now) (length c.args.lower.types.now) c.args.parameters.now) c.index-entry.result.now c.index-entry.ensures (omega (arith, c.loop-i-test.true, c.len-i-end.ensures, c.args.rows.ok.0)) c.requires).shorty_in

pub renumbered-requires-clause-return_type : goal.renumbered-requires-clause-return_type
renumbered-requires-clause-return_type c = (still_holds c.args.rows.items c.loop-i.rows.items c.loop-i.i c.loop-i.invariant.rest (IsEntryWithin (length c.args.lower.strings.now) (length c.args.lower.types.now) c.args.parameters.now) c.index-entry.result.now c.index-entry.ensures (omega (arith, c.loop-i-test.true, c.len-i-end.ensures, c.args.rows.ok.0)) c.requires).return_in

pub loop-i-preserved : goal.loop-i-preserved
loop-i-preserved c =
    let strings = c.args.lower.strings.now in
    let protos = c.args.rows.items in
    let rows = c.loop-i.rows.items in
    let h = c.loop-i.invariant in
    let lt : c.loop-i.i < length protos = omega (arith, c.loop-i-test.true, c.len-i-end.ensures, c.args.rows.ok.0) in
    let p = c.index-entry.result.now in
    let moved = c.renumbered.result in
    let more = map (slice_index c.args.lower.types.now) c.part.result in
    let entry : ProtoEntry = record {
      shorty = slice_index strings p.shorty;
      return_type = slice_index c.args.lower.types.now p.return_type;
      parameters = record { start = c.len-start.result; end = c.len-end.result };
    } in
    let numbers : ProtoNumbers = record { shorty = entry.shorty; return_type = entry.return_type; parameters = more } in
    let row : numbers ≡ moved_proto strings c.args.lower.types.now c.args.parameters.now p = λ k. record {
      shorty = entry.shorty;
      return_type = entry.return_type;
      parameters = map (slice_index c.args.lower.types.now) (c.part.ensures k);
    } in
    let pushed : take (c.loop-i.i + 1) (set rows c.loop-i.i moved) ≡ take c.loop-i.i rows ++ entry ∷ [] = take_more_set rows c.loop-i.i moved (omega (arith, lt, h.size)) ∙ ap (λ (q : ProtoEntry). take c.loop-i.i rows ++ q ∷ []) c.renumbered.ensures in
    let start : c.len-start.result ≡ length c.loop-i.moved.items = omega (arith, c.len-start.ensures, c.loop-i.moved.ok.0) in
    let end : c.len-end.result ≡ length c.push_images.new.to.items = omega (arith, c.len-end.ensures, c.push_images.new.to.ok.0) in
    record {
      so_far = rows_more c.loop-i.moved.items c.push_images.new.to.items more c.in_ok-push_images.ensures (take c.loop-i.i rows) (take (c.loop-i.i + 1) (set rows c.loop-i.i moved)) entry h.spans pushed start end
          ∙ (λ k. h.so_far k ++ (row ∙ ap (moved_proto strings c.args.lower.types.now c.args.parameters.now) (c.index-entry.ensures ∙ same_at protos rows c.loop-i.i h.rest p)) k ∷ []) ∙ sym (map_more (moved_proto strings c.args.lower.types.now c.args.parameters.now) protos c.loop-i.i p lt);
      spans = spans_more c.loop-i.moved.items c.push_images.new.to.items more c.in_ok-push_images.ensures (take c.loop-i.i rows) (take (c.loop-i.i + 1) (set rows c.loop-i.i moved)) entry h.spans pushed start end;
      rest = rest_set protos rows c.loop-i.i h.rest moved;
      size = length-set rows c.loop-i.i moved ∙ h.size;
    }
