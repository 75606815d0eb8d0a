use Rattle.dexlayout.proofs.Common.{◌≡◌, ◌^◌, ◌<◌, ◌≤◌, length, subst, sym, ap, ◌∙◌, All, IfSome, IfOk-weaker, AreTypeLists, ItemPlaces, encoded_lists, shared_at}
use Rattle.dexlayout.proofs.SharedKinds.{lists_fit, lists_numbered, lists_laid}
use Rattle.dexlayout.proofs.type_lists.place_type_lists.Goals as goal
use Rattle.dexlayout.proofs.type_lists.place_type_lists.Goals.{In_ok-places}

pub place_written-requires : goal.place_written-requires
place_written-requires c =
    subst (λ ws. (encoded_lists c.args.from ws).places.end ≤ 2 ^ 30) (sym c.deref.ensures.value)
    (lists_fit c.args.input.now.numbering.now c.args.input.now.classes.now c.requires.classes c.args.from c.requires.from c.in_ok-written.field-0.written.items c.in_ok-written.field-0.numbers.items c.in_ok-written.ensures.known c.in_ok-written.ensures.shared)

-- the places of the lists that are written
places_are : (c : In_ok-places) → c.in_ok-places.places ≡ (encoded_lists c.args.from c.in_ok-written.field-0.written.items).places
places_are c = c.in_ok-places.ensures ∙ ap (λ ws. (encoded_lists c.args.from ws).places) c.deref.ensures.value

pub of-requires : goal.of-requires
of-requires c =
    let s = c.in_ok-written.field-0 in
    subst (All (λ n. IfSome n (λ i. i < length c.in_ok-places.places.offsets))) (sym c.deref-2.ensures.value)
    (subst (λ (p : ItemPlaces). All (λ n. IfSome n (λ i. i < length p.offsets)) s.numbers.items) (sym (places_are ((goal.at.of-requires c).In_ok-places)))
    (lists_numbered c.args.input.now.numbering.now c.args.input.now.classes.now c.requires.classes c.args.from c.requires.from s.written.items s.numbers.items c.in_ok-written.ensures.known c.in_ok-written.ensures.shared))

pub returns : goal.returns
returns c =
    IfOk-weaker c.of.result _ _ (λ x e.
    subst (AreTypeLists c.args.input.now.numbering.now c.args.input.now.classes.now) (sym (e ∙ (λ i. shared_at (c.deref-2.ensures.value i) (places_are ((goal.at.returns c).In_ok-places) i))))
    (lists_laid c.args.input.now.numbering.now c.args.input.now.classes.now c.requires.classes c.args.from c.requires.from c.in_ok-written.field-0.written.items c.in_ok-written.field-0.numbers.items c.in_ok-written.ensures.known c.in_ok-written.ensures.shared)) c.of.ensures
