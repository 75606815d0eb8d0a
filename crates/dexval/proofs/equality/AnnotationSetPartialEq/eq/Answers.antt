use Rattle.dexval.proofs.Common.{◌∙◌, ap, sym, set_of, renumbered_set, equal_sets, set_decides}
use Rattle.dexval.proofs.Unmoved.{equal_results, set_stays}
use Rattle.dexval.specs.internal.Heads.{no_images}
use Rattle.dexval.proofs.equality.AnnotationSetPartialEq.eq.Goals as goal

pub returns : goal.returns
returns c =
    let x = c.args.self.now in
    let y = c.args.other.now in
    equal_results c.is_same_set.result (equal_sets x y) (
      (λ t. sym (set_stays (set_of x)) ∙ c.is_same_set.ensures.0 t ∙ set_stays (set_of y)),
      (λ e. c.is_same_set.ensures.1 (ap (renumbered_set no_images) e)),
    ) (set_decides (set_of x) (set_of y))
