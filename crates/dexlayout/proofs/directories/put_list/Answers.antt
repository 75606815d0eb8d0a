use Rattle.dexlayout.proofs.Common.{◌≡◌, ℕ, ◌+◌, ◌*◌, ◌≤◌, ◌^◌, length, arith, ap, sym, ◌∙◌, on_ok_weaker, offsets_bytes, round_up, ItemPlaces, encode_use, put_next, without_bytes}
use Rattle.dexspec.proofs.size.SizeItems.{offsets_bytes-size}
use Rattle.dexlayout.specs.internal.Placing.{CanPutList}
use Rattle.dexlayout.proofs.RefLists.{no_list, some_list}
use Rattle.dexlayout.proofs.directories.put_list.Goals as goal

-- a list that is not empty is within the file
within : (count : ℕ) (places : ItemPlaces) → CanPutList count places → (count ≡ 0 → ⊥) → round_up 4 places.end + (4 + 4 * count) ≤ 2 ^ 30
within count places (list, len, fits) some = omega (arith, ap (λ u. (encode_use 4 (without_bytes places) u).places.end) (some_list list (λ none. some (sym len ∙ none))), fits, offsets_bytes-size list, len)

pub overflow_mul-count : goal.overflow_mul-count
overflow_mul-count c = omega (arith, within c.args.count c.args.places.now c.requires c.if-count-eq0.false)

pub overflow_add-count : goal.overflow_add-count
overflow_add-count c = omega (arith, within c.args.count c.args.places.now c.requires c.if-count-eq0.false)

pub put_next-requires : goal.put_next-requires
put_next-requires c = omega (arith, within c.args.count c.args.places.now c.requires c.if-count-eq0.false, ap (λ (p : ItemPlaces). p.end) c.align.ensures)

pub returns-then-count-eq0 : goal.returns-then-count-eq0
returns-then-count-eq0 c = λ list len.
    on_ok_weaker c.pass.result (λ e. e ∙ ap (λ u. (encode_use 4 (without_bytes c.args.places.now) u).places) (sym (no_list list (len ∙ c.if-count-eq0.true)))) c.pass.ensures

pub returns : goal.returns
returns c = λ list len.
    let item = some_list list (λ none. c.if-count-eq0.false (sym len ∙ none)) in
    let size : 4 + 4 * c.args.count ≡ length (offsets_bytes list) = omega (arith, offsets_bytes-size list, len) in
    on_ok_weaker c.put_next.result (λ e. e ∙ (λ i. put_next (c.align.ensures i) (size i)) ∙ ap (λ u. (encode_use 4 (without_bytes c.args.places.now) u).places) (sym item)) c.put_next.ensures
