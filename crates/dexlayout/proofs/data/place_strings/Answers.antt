use Rattle.dexlayout.proofs.Common.{◌+◌, length, map, drop, Some, arith, ap, sym, subst, ◌∙◌, Text, string_data, offsets_from, end_from, AreLaidSo, place_use, place_uses}
use Rattle.dexlayout.proofs.EncodedUses.{all_encoded, put_plain, left_next, left_fits, left_none}
use Rattle.dexlayout.proofs.data.place_strings.Goals as goal

pub put_next-requires : goal.put_next-requires
put_next-requires c =
    let within = left_fits 1 (λ (s : Text). Some (length (string_data s))) c.loop-i.places c.args.numbering.now.texts c.loop-i.i c.string.result.now c.string.ensures.within (c.string.ensures.is c.string.result.now) c.loop-i.invariant in
    omega (arith, within, (all_encoded string_data 1 c.args.from c.args.numbering.now.texts).end_is, c.requires, c.item_len.ensures.len)

pub loop-i-preserved : goal.loop-i-preserved
loop-i-preserved c =
    let size = λ (s : Text). Some (length (string_data s)) in
    ap (λ p. place_uses 1 p (map size (drop (c.loop-i.i + 1) c.args.numbering.now.texts))) (c.in_ok-put_next.ensures ∙ put_plain c.loop-i.places c.item_len.result ∙ ap (λ n. place_use 1 c.loop-i.places (Some n)) c.item_len.ensures.len)
    ∙ sym (left_next 1 size c.loop-i.places c.args.numbering.now.texts c.loop-i.i c.string.result.now c.string.ensures.within (c.string.ensures.is c.string.result.now))
    ∙ c.loop-i.invariant

pub returns : goal.returns
returns c =
    let texts = c.args.numbering.now.texts in
    let all = sym (left_none 1 (λ (s : Text). Some (length (string_data s))) c.loop-i.places texts c.loop-i.i (omega (arith, c.loop-i-test.false, c.count-count.ensures))) ∙ c.loop-i.invariant in
    subst (AreLaidSo (offsets_from 1 c.args.from (map string_data texts)) (end_from 1 c.args.from (map string_data texts))) (sym all) (all_encoded string_data 1 c.args.from texts)
