use Rattle.dexlayout.proofs.Common.{◌∷◌, [], ◌++◌, map, subst, sym, ap, ◌∙◌, append_assoc, All, OnOk, IsKnownSet, SharesSets, set_use}
use Rattle.dexlayout.proofs.sets.ListSharing+ref+AnnotationSet.add_method.Goals as goal

pub returns : goal.returns
returns c = λ m uses known h.
    let x = c.args.method.now in
    let params = c.parameter_annotations.ensures in
    subst (λ us. OnOk c.add_list.result (SharesSets m us c.add_list.new.self.items.keys c.add_list.new.self.numbers))
    (append_assoc uses (set_use m x.annotations ∷ []) (map (set_use m) c.parameter_annotations.result) ∙ ap (λ l. uses ++ (set_use m x.annotations ∷ map (set_use m) l)) params)
    (c.add_list.ensures m (uses ++ set_use m x.annotations ∷ []) (subst (All (IsKnownSet m)) (sym params) known.parameters_known)
    (c.in_ok-add_set.ensures m uses x.annotations c.annotations.ensures known.annotations_known h))
