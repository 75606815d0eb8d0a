use Rattle.dexlayout.proofs.Common.{List, ℕ, Some, length, map, arith, ap, sym, ◌∙◌, drop_all, encode_use, encode_uses, ◌≡◌}
use Rattle.dexlayout.proofs.EncodedUses.{all_encoded_by, use_encoded, use_fits, drop_next, align_one, ended, ended_fits}
use Rattle.dexlayout.proofs.bodies.put_written.Goals as goal

pub loop-key-init : goal.loop-key-init
loop-key-init c = ap (λ p. encode_uses 1 p (map Some c.args.written.now)) c.in_ok-items.ensures

pub end_item-requires-clause-fits : goal.end_item-requires-clause-fits
end_item-requires-clause-fits c =
    let same : c.deref.result.now ≡ c.key-item.result = c.deref.ensures.value ∙ c.key.view_is in
    let fits = use_fits 1 c.loop-key.items (ap (map Some) (drop_next c.args.written.now c.loop-key.key-index c.key-item.result c.loop-key-test.true (sym c.key-item.is))) c.loop-key.invariant in
    ended_fits c.deref.result.now (c.items.view_is ∙ sym (align_one c.loop-key.items)) (c.len-before.ensures ∙ c.items.inside.bytes.ok.0) c.in_ok-extend_from_slice.ensures.items (omega (arith, fits, c.requires, ap (λ (bytes : List ℕ). length bytes) same))

pub loop-key-preserved : goal.loop-key-preserved
loop-key-preserved c =
    use_encoded 1 c.loop-key.items (ap (map Some) (drop_next c.args.written.now c.loop-key.key-index c.key-item.result c.loop-key-test.true (sym c.key-item.is))) c.loop-key.invariant
    (c.in_ok-end_item.ensures ∙ ended c.deref.result.now (c.items.view_is ∙ sym (align_one c.loop-key.items)) (c.len-before.ensures ∙ c.items.inside.bytes.ok.0) c.in_ok-extend_from_slice.ensures.items
    ∙ ap (λ bytes. encode_use 1 c.loop-key.items (Some bytes)) (c.deref.ensures.value ∙ c.key.view_is))

pub returns : goal.returns
returns c = all_encoded_by 1 (ap (map Some) (drop_all c.loop-key.key-index c.args.written.now c.loop-key-test.false)) c.loop-key.invariant
