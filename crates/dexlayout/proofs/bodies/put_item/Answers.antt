use Rattle.dexlayout.proofs.Common.{◌≡◌, ℕ, ◌≤◌, ◌^◌, List, Some, ap, subst, sym, ◌∙◌, on_ok_weaker, numbered_class_data_bytes, class_data_item, encode_use}
use Rattle.dexlayout.proofs.DataItems.{data_none, data_some}
use Rattle.dexlayout.proofs.EncodedUses.{align_one, ended, ended_fits}
use Rattle.dexlayout.proofs.bodies.put_item.Goals as goal
use Rattle.dexlayout.proofs.bodies.put_item.Goals.{In_ok-put_class_data}

-- ---- no members

pub returns-then-has_no_members : goal.returns-then-has_no_members
returns-then-has_no_members c =
    on_ok_weaker c.pass.result (λ e. e ∙ ap (encode_use 1 c.args.items.now) (sym (data_none c.args.class.now c.members-members.result.now c.args.code_offs.now c.has_no_members.result c.members-members.ensures c.has_no_members.ensures c.if-has_no_members.true))) c.pass.ensures

-- ---- some members

-- their data
abbrev data_of : In_ok-put_class_data → List ℕ
data_of c = numbered_class_data_bytes c.members-members.result.now c.args.code_offs.now

item_is : (c : In_ok-put_class_data) → class_data_item c.args.class.now c.args.code_offs.now ≡ Some (data_of c)
item_is c = data_some c.args.class.now c.members-members.result.now c.args.code_offs.now c.has_no_members.result c.members-members.ensures c.has_no_members.ensures c.if-has_no_members.false

pub end_item-requires-clause-fits : goal.end_item-requires-clause-fits
end_item-requires-clause-fits c =
    let here = (goal.at.end_item-requires-clause-fits c).In_ok-put_class_data in
    ended_fits (data_of here) (c.items.view_is ∙ sym (align_one c.args.items.now)) (c.len-before.ensures ∙ c.items.inside.bytes.ok.0) c.in_ok-put_class_data.ensures.bytes.ok (subst (λ u. (encode_use 1 c.args.items.now u).places.end ≤ 2 ^ 30) (item_is here) c.requires.fits)

pub returns : goal.returns
returns c =
    let here = (goal.at.returns c).In_ok-put_class_data in
    on_ok_weaker c.end_item.result
    (λ e. e ∙ ended (data_of here) (c.items.view_is ∙ sym (align_one c.args.items.now)) (c.len-before.ensures ∙ c.items.inside.bytes.ok.0) c.in_ok-put_class_data.ensures.bytes.ok ∙ ap (encode_use 1 c.args.items.now) (sym (item_is here)))
    c.end_item.ensures
