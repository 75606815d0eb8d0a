use Rattle.dexpool.proofs.Common.{◌++◌, ◌∷◌, [], ◌≡◌, arith, sym, ◌∙◌, take_more, ProtoNumbers, ProtoEntry}
use Rattle.dexpool.proofs.StoredProtos.{rows_more, spans_more}
use Rattle.dexpool.proofs.renumbering.stored.Goals as goal

pub loop-proto-preserved : goal.loop-proto-preserved
loop-proto-preserved c =
    let old = c.loop-proto.parameters.items in
    let new = c.push_numbers.new.to.items in
    let grown = c.in_ok-push_numbers.ensures in
    let entry : ProtoEntry = record { shorty = c.shorty.result; return_type = c.return_type.result; parameters = record { start = c.len-start.result; end = c.len-end.result } } in
    let numbers : ProtoNumbers = record { shorty = c.shorty.result; return_type = c.return_type.result; parameters = c.parameters.result } in
    let row : numbers ≡ c.proto-item.result = λ i. record { shorty = c.shorty.ensures i; return_type = c.return_type.ensures i; parameters = c.parameters.ensures i } in
    record {
      rows = rows_more old new c.parameters.result grown c.loop-proto.rows.items c.push.new.self.items entry c.loop-proto.invariant.spans c.in_ok-push.ensures.items (omega (arith, c.len-start.ensures, c.loop-proto.parameters.ok.0)) (omega (arith, c.len-end.ensures, c.push_numbers.new.to.ok.0))
          ∙ (λ i. c.loop-proto.invariant.rows i ++ (row ∙ c.proto-item.is) i ∷ []) ∙ sym (take_more c.args.protos.now c.loop-proto.proto-index c.proto-item.result c.loop-proto-test.true);
      spans = spans_more old new c.parameters.result grown c.loop-proto.rows.items c.push.new.self.items entry c.loop-proto.invariant.spans c.in_ok-push.ensures.items (omega (arith, c.len-start.ensures, c.loop-proto.parameters.ok.0)) (omega (arith, c.len-end.ensures, c.push_numbers.new.to.ok.0));
    }
