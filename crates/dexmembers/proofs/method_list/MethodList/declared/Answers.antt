use Rattle.dexmembers.proofs.Common.{◌∙◌, map, sym, ap, refl, map_both}
use Rattle.dexmembers.specs.{HeldMethod, StoredMethod, held_in}
use Rattle.dexmembers.specs.HeldCodes.{codes_in}
use Rattle.dexmembers.proofs.method_list.MethodList.declared.Goals as goal

pub returns : goal.returns
returns c =
    let x = c.args.self.now in
    ap (map (λ (y : StoredMethod). y.number)) c.deref.ensures.value ∙ sym (map_both (held_in (codes_in x.code_items)) (λ (y : HeldMethod). y.number) (λ (y : StoredMethod). y.number) x.methods.items (λ k d lt. refl))
