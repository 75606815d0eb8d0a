use Rattle.dexlayout.proofs.Common.{◌∷◌, [], ◌++◌, subst, sym, refl, ap, All, OnOk, IsKnownField, IsKnownMethod, SharesSets, set_use, field_uses, methods_uses}
use Rattle.dexlayout.proofs.SharedUses.{uses_joined}
use Rattle.dexlayout.proofs.sets.ListSharing+ref+AnnotationSet.add_members.Goals as goal

pub returns : goal.returns
returns c = λ m uses known h.
    let x = c.args.members.now in
    let dm = c.direct_methods.ensures in
    let us0 = uses ++ set_use m x.annotations ∷ [] in
    let us1 = us0 ++ field_uses m c.static_fields.result in
    let us2 = us1 ++ field_uses m c.instance_fields.result in
    let s1 = c.in_ok-add_fields.ensures m us0 (subst (All (IsKnownField m)) (sym c.static_fields.ensures) known.static_fields_known) (c.in_ok-add_set.ensures m uses x.annotations c.annotations.ensures known.annotations_known h) in
    let s3 = c.in_ok-add_methods.ensures m us2 (subst (All (IsKnownMethod m)) (sym dm) known.direct_methods_known) (c.in_ok-add_fields-2.ensures m us1 (subst (All (IsKnownField m)) (sym c.instance_fields.ensures) known.instance_fields_known) s1) in
    subst (λ us. OnOk c.add_methods-2.result (SharesSets m us c.add_methods-2.new.self.items.keys c.add_methods-2.new.self.numbers))
    (uses_joined uses (set_use m x.annotations) (set_use m x.annotations) (field_uses m c.static_fields.result) (field_uses m c.instance_fields.result) (methods_uses m c.direct_methods.result) (methods_uses m c.virtual_methods.result)
    (field_uses m x.static_fields) (field_uses m x.instance_fields) (methods_uses m x.direct_methods) (methods_uses m x.virtual_methods)
    refl (ap (field_uses m) c.static_fields.ensures) (ap (field_uses m) c.instance_fields.ensures) (ap (methods_uses m) dm) (ap (methods_uses m) c.virtual_methods.ensures))
    (c.add_methods-2.ensures m (us2 ++ methods_uses m c.direct_methods.result) (subst (All (IsKnownMethod m)) (sym c.virtual_methods.ensures) known.virtual_methods_known) s3)
