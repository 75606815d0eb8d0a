use Rattle.dexcode.proofs.Common.{◌≡◌, ℕ, ◌+◌, ◌*◌, NumberedHandler, length, get_or, slice_set, ap, sym, ◌∙◌, inl, inr, arith, length-set, get_or-set_same, get_or-set_other, get_or_default, cases_eq, no_handler, numbered_handler_bytes, place_of}
use Rattle.std.proofs.lemmas.List.Sums.{sum_by_more_le}
use Rattle.dexcode.proofs.HandlerPlaces.{few_catches, weight_count, weight_more, place_more}
use Rattle.dexcode.proofs.CodeSizes.{handler_length, handler_most}
use Rattle.dexcode.proofs.code_put.place_handlers.Goals as goal

pub overflow_cast-handlers : goal.overflow_cast-handlers
overflow_cast-handlers c = omega (arith, weight_count c.args.handlers.now, c.requires.short.light)

pub bounds-places-i : goal.bounds-places-i
bounds-places-i c = omega (arith, c.requires.enough, c.loop-i-test.true, c.loop-i.invariant.count)

pub overflow_add-place : goal.overflow_add-place
overflow_add-place c =
    let hs = c.args.handlers.now in
    let lt = c.loop-i-test.true in
    let is : get_or hs c.loop-i.i no_handler ≡ c.index-handlers-i.result = get_or_default hs c.loop-i.i no_handler c.index-handlers-i.result lt ∙ sym c.index-handlers-i.is in
    omega (arith, c.loop-i.invariant.few, c.encoded_len-place.ensures, ap (λ h. length (numbered_handler_bytes h)) is, handler_most (get_or hs c.loop-i.i no_handler), few_catches hs c.requires.short.light c.loop-i.i no_handler lt, c.requires.short.light, sum_by_more_le (λ (h : NumberedHandler). 10 + 8 * length h.catches) hs c.loop-i.i no_handler lt)

pub loop-i-preserved : goal.loop-i-preserved
loop-i-preserved c =
    let hs = c.args.handlers.now in
    let inv = c.loop-i.invariant in
    let lt = c.loop-i-test.true in
    let is : get_or hs c.loop-i.i no_handler ≡ c.index-handlers-i.result = get_or_default hs c.loop-i.i no_handler c.index-handlers-i.result lt ∙ sym c.index-handlers-i.is in
    let len : c.encoded_len-place.result ≡ length (numbered_handler_bytes c.index-handlers-i.result) = omega (arith, c.encoded_len-place.ensures, ap (λ h. length (numbered_handler_bytes h)) is, handler_most (get_or hs c.loop-i.i no_handler), few_catches hs c.requires.short.light c.loop-i.i no_handler lt) in
    record {
      sum = place_more hs c.loop-i.i no_handler c.loop-i.place c.encoded_len-place.result lt inv.sum (len ∙ ap (λ h. length (numbered_handler_bytes h)) (sym is));
      few = omega (arith, inv.few, len, ap (λ h. length (numbered_handler_bytes h)) is, handler_length (get_or hs c.loop-i.i no_handler) (c.requires.short.typed c.loop-i.i no_handler lt), weight_more hs c.loop-i.i no_handler lt);
      count = length-set c.loop-i.places c.loop-i.i c.loop-i.place ∙ inv.count;
      each = λ k less. elim (cases_eq k c.loop-i.i) [
        | inl here ↦ ap (λ (q : ℕ). get_or (slice_set c.loop-i.places c.loop-i.i c.loop-i.place) q 0) here ∙ get_or-set_same c.loop-i.places c.loop-i.i c.loop-i.place 0 (omega (arith, inv.count, c.requires.enough, lt)) ∙ inv.sum ∙ ap (place_of hs) (sym here)
        | inr other ↦ get_or-set_other c.loop-i.places c.loop-i.i k c.loop-i.place 0 other ∙ inv.each k (omega (arith, less, other))
      ];
    }
