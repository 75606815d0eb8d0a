use Rattle.dexlayout.proofs.Common.{[], ◌∷◌, ◌++◌, take, sym, subst, ap, ◌∙◌, arith, All, flat_map, flat_map_more, take_all, take_more, Mentions, NumberedClass, set_uses, IsKnownClass, IfOk-at_ok, ordered_of, SharesSets, members_uses}
use Rattle.dexmembers.specs.Numbered.{AreKnownMembers}
use Rattle.dexlayout.proofs.SharedUses.{shared_kept, shared_known, on_returned}
use Rattle.dexlayout.proofs.SharedKinds.{set_uses_are, sets_shared}
use Rattle.dexlayout.proofs.sets.share_sets.Goals as goal
use Rattle.dexlayout.proofs.sets.share_sets.Goals.{After-finish}

pub loop-i-preserved : goal.loop-i-preserved
loop-i-preserved c = λ m known.
    let cs = c.args.classes.now in
    let i = c.loop-i.i in
    let x = c.index-classes-i.result in
    let f = λ (d : NumberedClass). members_uses m d.members in
    let here : IsKnownClass m x = subst (IsKnownClass m) (sym c.index-classes-i.is) (known i x c.loop-i-test.true) in
    subst (λ us. SharesSets m us c.add_members.new.self.items.keys c.add_members.new.self.numbers)
    (ap (λ ms. flat_map f (take i cs) ++ members_uses m ms) c.members.ensures ∙ flat_map_more f [] (take i cs) x ∙ ap (flat_map f) (ap (λ y. take i cs ++ y ∷ []) c.index-classes-i.is ∙ sym (take_more cs i x c.loop-i-test.true)))
    (c.in_ok-add_members.ensures m (flat_map f (take i cs)) (subst (AreKnownMembers m) (sym c.members.ensures) here.members_known) (c.loop-i.invariant m known))

-- the sets of all classes
all : (c : After-finish) (m : Mentions) → All (IsKnownClass m) c.args.classes.now → SharesSets m (set_uses (ordered_of m c.args.classes.now)) c.loop-i.sharing.items.keys c.loop-i.sharing.numbers
all c m known =
    subst (λ us. SharesSets m us c.loop-i.sharing.items.keys c.loop-i.sharing.numbers)
    (ap (flat_map (λ d. members_uses m d.members)) (take_all c.loop-i.i c.args.classes.now (omega (arith, c.loop-i-test.false))) ∙ set_uses_are m c.args.classes.now) (c.loop-i.invariant m known)

pub returns-clause-shared : goal.returns-clause-shared
returns-clause-shared c = on_returned c.finish.result (λ x e m w.
    let h = all c m w.known in
    sets_shared m c.args.classes.now x.written.items x.numbers w.numbering.rising (shared_kept h x.written.items x.numbers (IfOk-at_ok _ e (c.finish.ensures h.used h.items))))

pub returns-clause-known : goal.returns-clause-known
returns-clause-known c = on_returned c.finish.result (λ x e m w.
    let h = all c m w.known in
    shared_known (shared_kept h x.written.items x.numbers (IfOk-at_ok _ e (c.finish.ensures h.used h.items))))
