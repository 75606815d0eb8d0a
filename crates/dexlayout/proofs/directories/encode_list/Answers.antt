use Rattle.dexlayout.proofs.Common.{◌≡◌, ℕ, ◌+◌, ◌*◌, ◌≤◌, ◌^◌, List, length, take, arith, ap, sym, ◌∙◌, length-take, round_up, encode_use, list_item, no_items_from}
use Rattle.dexspec.proofs.size.SizeItems.{offsets_bytes-size}
use Rattle.dexlayout.proofs.RefLists.{some_list}
use Rattle.dexlayout.proofs.directories.encode_list.Goals as goal

-- where the item of a list that is not empty ends
ends : (count at : ℕ) (offs : List ℕ) → count ≤ length offs → (count ≡ 0 → ⊥) → (encode_use 4 (no_items_from at) (list_item (take count offs))).places.end ≡ round_up 4 at + (4 + 4 * count)
ends count at offs enough some =
    let len : length (take count offs) ≡ count = omega (arith, length-take count offs, enough) in
    let size = offsets_bytes-size (take count offs) in
    ap (λ u. (encode_use 4 (no_items_from at) u).places.end) (some_list (take count offs) (λ none. some (sym len ∙ none))) ∙ ap (λ n. round_up 4 at + n) (size ∙ ap (λ n. 4 + 4 * n) len)

-- it is within the file
within : (count at : ℕ) (offs : List ℕ) → count ≤ length offs → (count ≡ 0 → ⊥) → (encode_use 4 (no_items_from at) (list_item (take count offs))).places.end ≤ 2 ^ 30 → round_up 4 at + (4 + 4 * count) ≤ 2 ^ 30
within count at offs enough some fits = omega (arith, ends count at offs enough some, fits)

pub overflow_cast-count : goal.overflow_cast-count
overflow_cast-count g c = omega (arith, within c.args.count c.args.at c.args.offs.now c.requires.enough c.if-count-eq0.false c.requires.fits)

pub overflow_cast-result : goal.overflow_cast-result
overflow_cast-result g c = omega (arith, within c.args.count c.args.at c.args.offs.now c.requires.enough c.if-count-eq0.false c.requires.fits)

pub overflow_mul-result : goal.overflow_mul-result
overflow_mul-result g c = omega (arith, within c.args.count c.args.at c.args.offs.now c.requires.enough c.if-count-eq0.false c.requires.fits)

pub overflow_add-result-2 : goal.overflow_add-result-2
overflow_add-result-2 g c = omega (arith, within c.args.count c.args.at c.args.offs.now c.requires.enough c.if-count-eq0.false c.requires.fits, c.round_up.ensures)

pub returns-clause-end : goal.returns-clause-end
returns-clause-end g c = omega (arith, ends c.args.count c.args.at c.args.offs.now c.requires.enough c.if-count-eq0.false, c.round_up.ensures)
