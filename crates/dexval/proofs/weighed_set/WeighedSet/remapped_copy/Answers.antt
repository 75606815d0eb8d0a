use Rattle.dexval.proofs.Common.{ℕ, ◌-◌, ◌^◌, ◌∙◌, min, ap, sym, refl, set_of}
use Rattle.dexval.proofs.KeptImages.{same_image}
use Rattle.dexval.proofs.WeightsKept.{fitting_kept}
use Rattle.dexval.proofs.weighed_set.WeighedSet.remapped_copy.Goals as goal

pub invariant_of-result : goal.invariant_of-result
invariant_of-result c =
    let kept = fitting_kept c.args.remap.now (set_of c.self.inside.set) (set_of c.in_ok-remapped_copy.field-0) c.in_ok-remapped_copy.ensures in c.self.invariant ∙ ap (λ (n : ℕ). min (2 ^ 64 - 1) n) (sym kept)

pub returns : goal.returns
returns c =
    let image = set_of c.in_ok-remapped_copy.field-0 in same_image c.args.remap.now (set_of c.self.inside.set) image c.args.self.now image (sym c.self.view_is) refl c.in_ok-remapped_copy.ensures
