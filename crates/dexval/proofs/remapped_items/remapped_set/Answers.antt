use Rattle.dexval.proofs.Common.{rules, ◌≡◌, ◌∙◌, sym}
use Rattle.dexval.proofs.KeptImages.{same_image}
use Rattle.dexval.proofs.remapped_items.remapped_set.Goals as goal

pub returns : goal.returns
returns c =
    let at : c.deref-3.result.now ≡ c.args.set.now.value = search rules in
    let made : c.in_ok-new.field-0.value ≡ c.in_ok-remapped_copy.field-0 = search rules in
    same_image c.args.remap.now c.deref-3.result.now c.in_ok-remapped_copy.field-0 c.args.set.now.value c.in_ok-new.field-0.value (sym at) made c.in_ok-remapped_copy.ensures
