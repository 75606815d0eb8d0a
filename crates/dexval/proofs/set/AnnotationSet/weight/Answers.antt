use Rattle.dexval.proofs.Common.{rules, ℕ, List, ◌≡◌, ◌-◌, ◌^◌, ◌∙◌, map, min, ap, subst, annotation_of, set_of, numbered_annotation_weight, numbered_set_weight}
use Rattle.dexval.specs.declared.annotation.Annotation.{Annotation}
use Rattle.dexval.proofs.Weights.{annotations_weigh, set_weight_is}
use Rattle.dexval.proofs.set.AnnotationSet.weight.Goals as goal

pub returns : goal.returns
returns c = λ m.
    subst (λ (xs : List Annotation). c.listed_weight.result ≡ min (2 ^ 64 - 1) (numbered_set_weight (map annotation_of xs))) c.deref.ensures.value
    (annotations_weigh c.deref.result.now c.listed_weight.result c.listed_weight.ensures.none (λ some. c.listed_weight.ensures.some some (λ a. numbered_annotation_weight (annotation_of a)) (λ a weight says. search rules)))
    ∙ ap (λ (n : ℕ). min (2 ^ 64 - 1) n) (set_weight_is m (set_of c.args.self.now))
