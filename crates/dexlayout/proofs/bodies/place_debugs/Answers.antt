use Rattle.dexlayout.proofs.Common.{◌≡◌, ◌^◌, ◌<◌, ◌≤◌, length, subst, sym, ap, ◌∙◌, All, IfSome, IfOk-weaker, AreDebugs, EncodedItems, encoded_debugs, shared_by}
use Rattle.dexlayout.proofs.SharedKinds.{debugs_fit, debugs_numbered, debugs_laid}
use Rattle.dexlayout.proofs.bodies.place_debugs.Goals as goal
use Rattle.dexlayout.proofs.bodies.place_debugs.Goals.{In_ok-items}

pub put_written-requires : goal.put_written-requires
put_written-requires c =
    subst (λ ws. (encoded_debugs c.args.from ws).places.end ≤ 2 ^ 30) (sym c.deref.ensures.value)
    (debugs_fit c.requires.0 c.args.input.now.classes.now c.requires.1 c.args.from c.requires.2 c.in_ok-written.field-0.written.items c.in_ok-written.field-0.numbers.items c.in_ok-written.ensures)

-- those that are written
items_are : (c : In_ok-items) → c.in_ok-items.items ≡ encoded_debugs c.args.from c.in_ok-written.field-0.written.items
items_are c = c.in_ok-items.ensures ∙ ap (encoded_debugs c.args.from) c.deref.ensures.value

pub of-requires : goal.of-requires
of-requires c =
    let s = c.in_ok-written.field-0 in
    subst (All (λ n. IfSome n (λ i. i < length c.in_ok-items.items.places.offsets))) (sym c.deref-2.ensures.value)
    (subst (λ (e : EncodedItems). All (λ n. IfSome n (λ i. i < length e.places.offsets)) s.numbers.items) (sym (items_are (goal.at.of-requires c).In_ok-items))
    (debugs_numbered c.requires.0 c.args.input.now.classes.now c.requires.1 c.args.from c.requires.2 s.written.items s.numbers.items c.in_ok-written.ensures))

pub returns : goal.returns
returns c =
    IfOk-weaker c.of.result _ _ (λ x e m w is.
    subst (AreDebugs m c.args.input.now.classes.now) (sym (e ∙ (λ i. shared_by (c.deref-2.ensures.value i) (items_are (goal.at.returns c).In_ok-items i))))
    (debugs_laid m c.args.input.now.classes.now w c.args.from is c.in_ok-written.field-0.written.items c.in_ok-written.field-0.numbers.items c.in_ok-written.ensures)) c.of.ensures
