use Rattle.dexlayout.proofs.Common.{◌<◌, [], ◌∷◌, ◌++◌, OnOk, length, subst, arith, SharesLists}
use Rattle.dexlayout.proofs.EarlierLists.{lists_before}
use Rattle.dexlayout.proofs.SharedUses.{shared_again}
use Rattle.dexlayout.proofs.type_lists.Sharing+ListKey.add_list_at.Goals as goal

pub returns-then-place-len-clause-added : goal.returns-then-place-len-clause-added
returns-then-place-len-clause-added c = λ m uses known same h.
    let before : c.args.place < length c.args.self.now.numbers.items = omega (arith, c.if-place-len.true, c.len.ensures) in
    subst (λ u. OnOk c.add_again.result (SharesLists m (uses ++ u ∷ []) c.add_again.new.self.items.keys c.add_again.new.self.numbers.items)) (same (omega (arith, before, lists_before m h)))
    (shared_again h c.add_again.result _ _ c.args.place before (c.add_again.ensures.added h.used h.items))

pub returns-clause-added : goal.returns-clause-added
returns-clause-added c = λ m uses known same h. c.add_list.ensures.added m uses known h
