use Rattle.dexlayout.proofs.Common.{◌≡◌, ℕ, ◌+◌, List, length, take, drop, sym, ap, ◌∙◌, arith, drop-drop, length-drop, on_ok_weaker, flat_map, NumberedMembers, fields_of, methods_of, sets_of_method}
use Rattle.dexlayout.proofs.SetsCollected.{class_sets_count, collected_class, left_of_class}
use Rattle.dexlayout.proofs.sets.Sets.collect_class.Goals as goal

pub collect_own-requires : goal.collect_own-requires
collect_own-requires c =
    let count = c.field_count.ensures ∙ ap (λ (y : NumberedMembers). length (fields_of y)) c.members-members.ensures in
    omega (arith, class_sets_count c.args.class.now, count, c.requires)

pub collect_methods-requires : goal.collect_methods-requires
collect_methods-requires c =
    let count = c.field_count.ensures ∙ ap (λ (y : NumberedMembers). length (fields_of y)) c.members-members.ensures in
    let methods = ap (λ (y : NumberedMembers). length (flat_map sets_of_method (methods_of y))) c.members-members.ensures in
    omega (arith, class_sets_count c.args.class.now, count, methods, c.requires, ap (λ (l : List ℕ). length l) c.in_ok-collect_own.ensures.left, length-drop (1 + c.field_count.result) c.args.offs.now)

pub returns-clause-collected : goal.returns-clause-collected
returns-clause-collected c =
    let x = c.args.class.now.members in
    let offs = c.args.offs.now in
    let k = length (fields_of x) in
    let members : c.members-members.result.now ≡ x = c.members-members.ensures in
    let count : c.field_count.result ≡ k = c.field_count.ensures ∙ ap (λ (y : NumberedMembers). length (fields_of y)) members in
    let rest : c.collect_own.new.offs ≡ drop k (drop 1 offs) = c.in_ok-collect_own.ensures.left ∙ ap (λ j. drop (1 + j) offs) count ∙ sym (drop-drop k 1 offs) in
    let fields : take c.field_count.result (drop 1 offs) ≡ take k (drop 1 offs) = ap (λ j. take j (drop 1 offs)) count in
    on_ok_weaker c.collect_methods.result (collected_class c.args.class.now offs c.members-members.result.now c.args.self.now members fields rest c.in_ok-collect_own.ensures.collected) c.collect_methods.ensures.collected

pub returns-clause-left : goal.returns-clause-left
returns-clause-left c =
    let x = c.args.class.now.members in
    let offs = c.args.offs.now in
    let k = length (fields_of x) in
    let members : c.members-members.result.now ≡ x = c.members-members.ensures in
    let count : c.field_count.result ≡ k = c.field_count.ensures ∙ ap (λ (y : NumberedMembers). length (fields_of y)) members in
    let rest : c.collect_own.new.offs ≡ drop k (drop 1 offs) = c.in_ok-collect_own.ensures.left ∙ ap (λ j. drop (1 + j) offs) count ∙ sym (drop-drop k 1 offs) in
    on_ok_weaker c.collect_methods.result (left_of_class c.args.class.now offs c.members-members.result.now members rest) c.collect_methods.ensures.left
