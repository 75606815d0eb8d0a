use Rattle.dexlayout.proofs.Common.{◌≡◌, ℕ, ◌≤◌, ◌^◌, List, ◌++◌, length, map, Some, refl, arith, ap, sym, subst, ◌∙◌, length-map, eqb-false, eqb-true, on_ok_weaker, encoded_array_bytes, value_of, NumberedValue, values_in, values_of_list, AreKnown, NumberedMembers, encode_use, static_item}
use Rattle.dexlayout.proofs.Counted.{array_counted}
use Rattle.dexlayout.proofs.EncodedUses.{align_one, ended, ended_fits}
use Rattle.dexlayout.proofs.StaticItems.{static_some, static_none}
use Rattle.dexlayout.proofs.values.put_array.Goals as goal
use Rattle.dexlayout.proofs.values.put_array.Goals.{In_ok-put_static_values}

-- ---- no values

pub returns-then-is_empty : goal.returns-then-is_empty
returns-then-is_empty c =
    let vs = c.static_values.result.now in
    let none = static_none c.args.input.now.numbering.now c.args.class.now (map value_of vs) (c.static_values.ensures ∙ ap (λ (x : NumberedMembers). x.static_values) c.members-members.ensures)
    (omega (arith, eqb-true (length vs) 0 (sym c.is_empty.ensures ∙ c.if-is_empty.true), length-map vs value_of)) in
    on_ok_weaker c.pass.result (λ e. e ∙ ap (encode_use 1 c.args.items.now) (sym none)) c.pass.ensures

-- ---- some values

-- the values by numbers, and their array
abbrev values : In_ok-put_static_values → List NumberedValue
values c = map value_of c.static_values.result.now

abbrev array : In_ok-put_static_values → List ℕ
array c = encoded_array_bytes c.args.input.now.numbering.now (values_in c.args.input.now.numbering.now (values_of_list (values c)))

same : (c : In_ok-put_static_values) → values_of_list (values c) ≡ c.args.class.now.members.static_values
same c = c.static_values.ensures ∙ ap (λ (x : NumberedMembers). x.static_values) c.members-members.ensures

item_is : (c : In_ok-put_static_values) → static_item c.args.input.now.numbering.now c.args.class.now ≡ Some (array c)
item_is c =
    let vs = c.static_values.result.now in
    static_some c.args.input.now.numbering.now c.args.class.now (values c) (same c) (omega (arith, eqb-false (length vs) 0 (sym c.is_empty.ensures ∙ c.if-is_empty.false), length-map vs value_of))

-- it ends within the file
fits : (c : In_ok-put_static_values) → (encode_use 1 c.args.items.now (Some (array c))).places.end ≤ 2 ^ 30
fits c = subst (λ u. (encode_use 1 c.args.items.now u).places.end ≤ 2 ^ 30) (item_is c) c.requires.fits

-- its bytes were put
put : (c : In_ok-put_static_values) → c.put_static_values.new.out.items ≡ c.items.inside.bytes.items ++ array c
put c =
    let m = c.args.input.now.numbering.now in
    let xs = values_of_list (values c) in
    let few = array_counted m xs (omega (arith, fits c)) in
    let known = subst (AreKnown m) (sym (same c)) c.requires.known.members_known.values_known in
    let puts = rw (sym c.static_values.ensures) at c.in_ok-put_static_values.ensures.symbolic in
    (puts (values_in m xs) few.0 few.1 (record { known = known; mean = refl })).ok

pub end_item-requires-clause-fits : goal.end_item-requires-clause-fits
end_item-requires-clause-fits c =
    let here = (goal.at.end_item-requires-clause-fits c).In_ok-put_static_values in
    ended_fits (array here) (c.items.view_is ∙ sym (align_one c.args.items.now)) (c.len-before.ensures ∙ c.items.inside.bytes.ok.0) (put here) (fits here)

pub returns : goal.returns
returns c =
    let here = (goal.at.returns c).In_ok-put_static_values in
    on_ok_weaker c.end_item.result
    (λ e. e ∙ ended (array here) (c.items.view_is ∙ sym (align_one c.args.items.now)) (c.len-before.ensures ∙ c.items.inside.bytes.ok.0) (put here) ∙ ap (encode_use 1 c.args.items.now) (sym (item_is here))) c.end_item.ensures
