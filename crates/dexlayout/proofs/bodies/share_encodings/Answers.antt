use Rattle.dexlayout.proofs.Common.{[], take, subst, sym, ap, ◌∙◌, ◌∷◌, ◌++◌, flat_map, flat_map_more, take_more, NumberedClass, methods_of, same_bytes, HasUses, all_debug_encodings, debug_encodings}
use Rattle.dexlayout.proofs.bodies.share_encodings.Goals as goal

pub loop-i-preserved : goal.loop-i-preserved
loop-i-preserved c =
    let cs = c.args.input.now.classes.now in
    let i = c.loop-i.i in
    let f = λ (d : NumberedClass). debug_encodings (methods_of d.members) in
    let x = c.index-classes-i.result in
    subst (λ us. HasUses same_bytes us c.add_members.new.self.sharing)
    (ap (λ ms. all_debug_encodings (take i cs) ++ debug_encodings (methods_of ms)) c.members.ensures ∙ flat_map_more f [] (take i cs) x ∙ ap (flat_map f) (ap (λ y. take i cs ++ y ∷ []) c.index-classes-i.is ∙ sym (take_more cs i x c.loop-i-test.true)))
    (c.in_ok-add_members.ensures (all_debug_encodings (take i cs)) c.loop-i.invariant)
