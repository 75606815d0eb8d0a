use Rattle.dexlayout.proofs.Common.{[], map, subst, unless_empty, type_list_uses, IfOk-at_ok, ordered_of, SharesLists}
use Rattle.dexlayout.proofs.SharedKinds.{list_uses_are, lists_shared}
use Rattle.dexlayout.proofs.SharedUses.{shared_none, shared_kept, shared_known, on_returned}
use Rattle.dexlayout.proofs.type_lists.share_type_lists.Goals as goal
use Rattle.dexlayout.proofs.type_lists.share_type_lists.Goals.{After-finish}

-- the type lists of all protos and classes
all : (c : After-finish) → SharesLists c.args.input.now.numbering.now (type_list_uses (ordered_of c.args.input.now.numbering.now c.args.input.now.classes.now)) c.add_interfaces.new.self.items.keys c.add_interfaces.new.self.numbers.items
all c =
    let m = c.args.input.now.numbering.now in
    subst (λ us. SharesLists m us c.add_interfaces.new.self.items.keys c.add_interfaces.new.self.numbers.items) (list_uses_are m c.args.input.now.classes.now)
    (c.in_ok-add_interfaces.ensures m (map (λ p. unless_empty p.parameters) m.protos) c.requires.known (c.in_ok-add_parameters.ensures [] (shared_none c.in_ok-sharing.ensures)))

pub returns-clause-shared : goal.returns-clause-shared
returns-clause-shared c = on_returned c.finish.result (λ x e.
    let h = all c in
    lists_shared c.args.input.now.numbering.now c.args.input.now.classes.now x.written.items x.numbers.items c.requires.numbering.rising (shared_kept h x.written.items x.numbers.items (IfOk-at_ok _ e (c.finish.ensures h.used h.items))))

pub returns-clause-known : goal.returns-clause-known
returns-clause-known c = on_returned c.finish.result (λ x e.
    let h = all c in
    shared_known (shared_kept h x.written.items x.numbers.items (IfOk-at_ok _ e (c.finish.ensures h.used h.items))))
