use Rattle.dexlayout.proofs.Common.{◌≡◌, ◌+◌, ◌*◌, ◌≤◌, ◌^◌, List, ℕ, length, arith, ap, sym, ◌∙◌, on_ok_weaker, round_up, ItemPlaces, list_bytes, put_next}
use Rattle.dexlayout.proofs.SharedKinds.{length_list}
use Rattle.dexlayout.proofs.type_lists.put_list.Goals as goal
use Rattle.dexlayout.proofs.type_lists.put_list.Goals.{After-len}

-- the number of bytes
len : (c : After-len) → length (list_bytes c.args.key.now) ≡ 4 + 2 * c.len.result
len c = length_list c.args.key.now ∙ ap (λ n. 4 + 2 * n) (sym (c.len.ensures ∙ ap (λ (l : List ℕ). length l) c.key.view_is))

-- the list ends within the file
within : (c : After-len) → round_up 4 c.args.places.now.end + (4 + 2 * c.len.result) ≤ 2 ^ 30
within c = omega (arith, c.requires, len c)

pub overflow_mul-len : goal.overflow_mul-len
overflow_mul-len c = omega (arith, within (goal.at.overflow_mul-len c).After-len)

pub overflow_add-len : goal.overflow_add-len
overflow_add-len c = omega (arith, within (goal.at.overflow_add-len c).After-len)

pub put_next-requires : goal.put_next-requires
put_next-requires c = omega (arith, within (goal.at.put_next-requires c).After-len, ap (λ (p : ItemPlaces). p.end) c.align.ensures)

pub returns : goal.returns
returns c = on_ok_weaker c.put_next.result (λ e. e ∙ (λ i. put_next (c.align.ensures i) (sym (len (goal.at.returns c).After-len) i))) c.put_next.ensures
